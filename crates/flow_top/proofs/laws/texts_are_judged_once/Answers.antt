use Rattle.flow_top.proofs.Judging.{judgement-unique, judgement-exists}
use Rattle.flow_top.proofs.Ends.{end-unique, end-exists, demo-end}
use Rattle.flow_top.proofs.laws.texts_are_judged_once.Goals as goal

pub returns-clause-judged_once : goal.returns-clause-judged_once
returns-clause-judged_once c = judgement-unique

pub returns-clause-ends_once : goal.returns-clause-ends_once
returns-clause-ends_once c = end-unique c.first_wide_places_are_one.ensures

pub returns-clause-demo_ends : goal.returns-clause-demo_ends
returns-clause-demo_ends c stages text records some few =
    demo-end stages text records (c.generated_plants_are_plants.ensures.plants stages some few)

pub returns-clause-judged : goal.returns-clause-judged
returns-clause-judged c = judgement-exists c.verdicts_exist.ensures c.read_parts_are_in_range.ensures

pub returns-clause-ends : goal.returns-clause-ends
returns-clause-ends c command text records reads =
    let judged = judgement-exists c.verdicts_exist.ensures c.read_parts_are_in_range.ensures text in
    end-exists c.wide_places_are_found.ensures command text records judged.0 reads judged.1
