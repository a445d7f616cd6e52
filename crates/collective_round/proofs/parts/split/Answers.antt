-- What was split off goes back.
use Rattle.collective_round.proofs.Words.{List, ℕ, ap, subst, ◌≡◌, ◌∙◌, ◌-◌, map, drop, rules, arith, common_steps, AreSplit, Disk, PartState, part_state, nat_tests}
use Rattle.collective_round.proofs.PartSplits.{joined_at_least, same_fault}
use Rattle.collective_round.proofs.PartLaws.{parts_follow, parts_rejoined, split_from}
use Rattle.collective_round.proofs.parts.split.Given.{Over}
use Rattle.collective_round.proofs.parts.split.Goals as goal

abbrev state : (g : Over) → g.row.D.Denot → PartState
state g d = part_state g.D.Disk d

pub append_all-requires-after_bounds : goal.append_all-requires-after_bounds
append_all-requires-after_bounds g c κs within =
    parts_follow (state g) (state g c.args.disk.now) (state g c.split_backwards-end.new.disk) _ c.reverse.new.self.items
    (split_from (state g) _ _ c.args.domains.now _ _ _ c.requires.from c.requires.domains c.requires.room c.split_backwards-end.ensures.split (ap (λ (ds : List g.row.D.Denot). map (state g) ds) c.reverse.ensures.items))

pub returns-clause-split : goal.returns-clause-split
returns-clause-split g c =
    let split = c.split_backwards-end.ensures.split in
    let all : split.at ≡ 0 = first_of (search rules, grind (arith, common_steps)) in
    subst (λ (k : ℕ). AreSplit (state g) (state g c.args.disk.now) (state g c.split_backwards-end.new.disk) (drop k c.args.domains.now) c.reverse.new.self.items) all
    (split_from (state g) _ _ c.args.domains.now _ _ _ c.requires.from c.requires.domains c.requires.room split (ap (λ (ds : List g.row.D.Denot). map (state g) ds) c.reverse.ensures.items))

pub returns-in-Err-clause-kept : goal.returns-in-Err-clause-kept
returns-in-Err-clause-kept g c =
    let s = split_from (state g) (state g c.args.disk.now) (state g c.split_backwards-end.new.disk) c.args.domains.now c.reverse.new.self.items _ _ c.requires.from c.requires.domains c.requires.room
    c.split_backwards-end.ensures.split (ap (λ (ds : List g.row.D.Denot). map (state g) ds) c.reverse.ensures.items) in
    let before = parts_rejoined (state g) _ _ _ _ s (g.D.Disk.told c.args.disk.now) in (
      ap (λ (p : PartState). p.from) c.append_all.ensures ∙ before.place.from,
      ap (λ (p : PartState). p.len) c.append_all.ensures ∙ before.place.len,
      ap (λ (p : PartState). p.held) c.append_all.ensures ∙ before.held,
      ap (λ (p : PartState). p.calls) c.append_all.ensures ∙ before.calls,
    )

pub returns-in-Err-clause-cause : goal.returns-in-Err-clause-cause
returns-in-Err-clause-cause g c =
    let mid = state g c.split_backwards-end.new.disk in
    grind (arith, nat_tests, joined_at_least, same_fault, c.in-Err.ensures.cause, c.append_all.ensures, c.size-size.ensures.counted, c.in-Err.ensures.cause.later, c.in-Err.ensures.cause.failed)
