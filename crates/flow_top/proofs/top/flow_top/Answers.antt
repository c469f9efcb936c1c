use Rattle.flow_edge.specs.declared.status.Status.TheVariants as status
use Rattle.flow_top.proofs.Causes.{caused}
use Rattle.flow_top.proofs.Only.{words-only, refused-only, stopped-only, complete}
use Rattle.flow_top.proofs.top.flow_top.Goals as goal

pub returns-clause-done : goal.returns-clause-done
returns-clause-done g c d = (caused _ _ _ _ _ _ status.Done c.work-ended.result c.work-ended.ensures c.say.ensures d).0

pub returns-clause-done_quiet : goal.returns-clause-done_quiet
returns-clause-done_quiet g c d = (caused _ _ _ _ _ _ status.Done c.work-ended.result c.work-ended.ensures c.say.ensures d).1

pub returns-clause-words : goal.returns-clause-words
returns-clause-words g c d = caused _ _ _ _ _ _ status.Words c.work-ended.result c.work-ended.ensures c.say.ensures d

pub returns-clause-refused : goal.returns-clause-refused
returns-clause-refused g c d = caused _ _ _ _ _ _ status.Refused c.work-ended.result c.work-ended.ensures c.say.ensures d

pub returns-clause-no : goal.returns-clause-no
returns-clause-no g c d = caused _ _ _ _ _ _ status.No c.work-ended.result c.work-ended.ensures c.say.ensures d

pub returns-clause-read_fault : goal.returns-clause-read_fault
returns-clause-read_fault g c d = caused _ _ _ _ _ _ status.ReadFault c.work-ended.result c.work-ended.ensures c.say.ensures d

pub returns-clause-write_fault : goal.returns-clause-write_fault
returns-clause-write_fault g c d = caused _ _ _ _ _ _ status.WriteFault c.work-ended.result c.work-ended.ensures c.say.ensures d

pub returns-clause-no_memory : goal.returns-clause-no_memory
returns-clause-no_memory g c d = caused _ _ _ _ _ _ status.NoMemory c.work-ended.result c.work-ended.ensures c.say.ensures d

pub returns-clause-wide : goal.returns-clause-wide
returns-clause-wide g c d = caused _ _ _ _ _ _ status.Wide c.work-ended.result c.work-ended.ensures c.say.ensures d

pub returns-clause-words_only : goal.returns-clause-words_only
returns-clause-words_only g c at d = words-only _ _ _ _ _ _ at c.work-ended.result c.work-ended.ensures c.say.ensures d

pub returns-clause-refused_only : goal.returns-clause-refused_only
returns-clause-refused_only g c request text fault a k t judged =
    refused-only _ _ _ _ _ _ c.first_wide_places_are_one.ensures request text fault c.work-ended.result c.work-ended.ensures
    c.say.ensures a k t judged

pub returns-clause-stopped_only : goal.returns-clause-stopped_only
returns-clause-stopped_only g c request stop a told ends =
    stopped-only _ _ _ _ _ _ c.first_wide_places_are_one.ensures request stop c.work-ended.result c.work-ended.ensures
    c.say.ensures a told ends

pub returns-clause-complete : goal.returns-clause-complete
returns-clause-complete g c request a told ends p x o q s =
    complete _ _ _ _ _ _ c.first_wide_places_are_one.ensures request c.work-ended.result c.work-ended.ensures c.say.ensures
    a told ends p x o q s
