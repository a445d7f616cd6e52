-- The gets of the parts are those of the disk.
use Rattle.collective_round.proofs.Words.{◌≡◌, ◌∙◌, ℕ, List, refl, length, rules, arith, common_steps, if_some_at, get_turns, HasGot, HasRead, PartState, part_state}
use Rattle.collective_round.proofs.PartDomains.{as_many_parts, domain_of_part, domains_room, on_some_part}
use Rattle.collective_round.proofs.PartLaws.{all_cause, all_follow}
use Rattle.collective_round.proofs.GetPartLaws.{part_read, parts_got, told_read}
use Rattle.collective_round.proofs.rounds.get_parts.Given.{Over}
use Rattle.collective_round.proofs.rounds.get_parts.Goals as goal

abbrev state : (g : Over) → g.row.D.Denot → PartState
state g d = part_state g.D.Disk d

pub split-requires-clause-room : goal.split-requires-clause-room
split-requires-clause-room g c κs within =
    let plan = c.args.plan.now in
    domains_room plan.list.now plan.cover.now c.args.domains.now (g.D.Disk.len c.args.disk.now) c.requires.on

pub exchange_get-parts-requires-clause-one_each : goal.exchange_get-parts-requires-clause-one_each
exchange_get-parts-requires-clause-one_each g c κs within =
    as_many_parts (state g) (state g c.args.disk.now) c.args.domains.now c.in_ok-parts.parts.items c.in_ok-parts.ensures.split.parts_are

pub exchange_get-parts-requires-clause-domains : goal.exchange_get-parts-requires-clause-domains
exchange_get-parts-requires-clause-domains g c κs within =
    let plan = c.args.plan.now in
    domain_of_part plan.list.now plan.cover.now c.args.domains.now (g.D.Disk.len c.args.disk.now) c.requires.on (state g) (state g c.args.disk.now) c.in_ok-parts.parts.items refl c.in_ok-parts.ensures.split.parts_are

pub exchange_get-parts-requires-clause-whole : goal.exchange_get-parts-requires-clause-whole
exchange_get-parts-requires-clause-whole g c κs within =
    let plan = c.args.plan.now in
    on_some_part plan.list.now plan.cover.now c.args.domains.now (g.D.Disk.len c.args.disk.now) c.requires.on (state g) (state g c.args.disk.now) c.in_ok-parts.parts.items refl c.in_ok-parts.ensures.split.parts_are

pub append_all-requires-after_bounds : goal.append_all-requires-after_bounds
append_all-requires-after_bounds g c κs within =
    let plan = c.args.plan.now in
    all_follow (state g) (state g c.args.disk.now) (state g c.split.new.disk) c.args.domains.now c.in_ok-parts.parts.items c.in_ok-parts.ensures.split
    (λ d p now. HasGot (get_turns plan d) p now c.exchange_get-parts.result.1) c.exchange_get-parts.result.0.items c.exchange_get-parts.ensures.got (λ d p now h. record { from = h.from; len = h.len })

pub returns : goal.returns
returns g c =
    let plan = c.args.plan.now in
    let old = state g c.args.disk.now in
    let front = state g c.split.new.disk in
    let new = state g c.append_all.new.disk in
    let parts = c.in_ok-parts.parts.items in
    let news = c.exchange_get-parts.result.0.items in
    let end = c.exchange_get-parts.result.1 in
    let s = c.in_ok-parts.ensures.split in
    let got = parts_got (state g) (λ d. get_turns plan d) old front new c.args.domains.now parts news end s (g.D.Disk.told c.args.disk.now) c.exchange_get-parts.ensures.got c.append_all.ensures in
    record {
      read =
          told_read end (g.D.Disk.held c.args.disk.now) (λ file. HasRead file plan.list.now c.args.into.now c.exchange_get-parts.new.into)
          (λ file told. c.exchange_get-parts.ensures.read file
          (part_read (state g) old front c.args.domains.now parts file s
          (if_some_at (λ (f : List ℕ). length f ≡ g.D.Disk.len c.args.disk.now) _ _ told (g.D.Disk.told c.args.disk.now)) told));
      blobs = first_of (search rules, grind (arith, common_steps));
      calls = got.device;
      bytes = got.held;
      from = got.place.from ∙ c.requires.from;
      len = got.place.len;
      cause = all_cause (state g) old front new c.args.domains.now parts news end s c.split.ensures.counted
          c.in_ok-parts.ensures.cause.later c.exchange_get-parts.ensures.failed c.append_all.ensures;
    }
