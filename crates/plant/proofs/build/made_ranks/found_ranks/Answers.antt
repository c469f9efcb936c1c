use Rattle.std.proofs.Common.{◌≤◌, All, length, sym, subst}
use Rattle.std.specs.Prelude.{IfOk, IfErr}
use Rattle.topology.specs.Links.{LinkLists, AreLinks, AreRanks}
use Rattle.topology.specs.Faults.{IsRankFault}
use Rattle.plant.specs.Sound.{ArePartsSound}
use Rattle.plant.proofs.BuildVerdicts.{are_found}
use Rattle.plant.proofs.build.made_ranks.found_ranks.Goals as goal

pub ranks-requires : goal.ranks-requires
ranks-requires c =
    let s : ArePartsSound c.args.parts.now =
    c.checked_parts_are_sound.ensures c.args.parts.now c.ranges-2.ensures c.requires.passes in
    subst AreLinks (sym c.requires.links) s.links

pub returns-clause-ranked : goal.returns-clause-ranked
returns-clause-ranked c =
    subst (λ (l : LinkLists). IfOk c.ranks.result (λ ranks. AreRanks l ranks.items)) c.requires.links c.ranks.ensures.ranks

pub returns-clause-found : goal.returns-clause-found
returns-clause-found c =
    let s : ArePartsSound c.args.parts.now =
    c.checked_parts_are_sound.ensures c.args.parts.now c.ranges-2.ensures c.requires.passes in
    are_found _ _ (λ ranks. ranks.items) c.ranks.result _ c.ranks_are_found.ensures s.links (returns-clause-ranked c)
    (subst (λ (l : LinkLists). IfOk c.ranks.result (λ ranks. All (λ rank. rank ≤ length l.instant) ranks.items))
    c.requires.links c.ranks.ensures.few)

pub returns-clause-fault : goal.returns-clause-fault
returns-clause-fault c =
    subst (λ (l : LinkLists). IfErr c.ranks.result (IsRankFault l)) c.requires.links c.ranks.ensures.fault
