use Rattle.dataset_start.proofs.Words.{◌≡◌, ◌≤◌, ◌-◌, ℕ, List, refl, arith, ◌∙◌, ap, writable_is_sound, after, longer, written, end_of, Header, canon, header_len, sound_end, on_err, nat_tests}
use Rattle.dataset_start.proofs.Created.{created, front_fits}
use Rattle.dataset_start.proofs.NotReady.{grow_refused, head_refused, start_refused}
use Rattle.dataset_start.proofs.fresh.create.Goals as goal

pub end_of-end-requires-clause-sound : goal.end_of-end-requires-clause-sound
end_of-end-requires-clause-sound g c = writable_is_sound c.args.header.now c.requires.writable

pub end_of-end-requires-clause-below : goal.end_of-end-requires-clause-below
end_of-end-requires-clause-below g c = sound_end c.args.header.now 0 (writable_is_sound c.args.header.now c.requires.writable) (omega arith)

pub grow-requires-clause-below : goal.grow-requires-clause-below
grow-requires-clause-below g c = grind (arith, nat_tests, sound_end, writable_is_sound, c.end_of-end.ensures)

pub returns-clause-bytes : goal.returns-clause-bytes
returns-clause-bytes g c =
    let h : Header = c.args.header.now in
    let place : 0 - g.D.Disk.from c.grow.new.self ≡ 0 = omega arith in
    created (canon h) (end_of h (header_len h) 0) (g.D.Disk.len c.grow.new.self) (0 - g.D.Disk.from c.grow.new.self)
    (g.D.Disk.held c.args.disk.now) (g.D.Disk.held c.start.new.self) (g.D.Disk.held c.grow.new.self) (g.D.Disk.held c.write_at.new.self)
    (front_fits h 0) (c.in_ok-grow.ensures.size ∙ c.end_of-end.ensures) place (c.in_ok-start.ensures.emptied refl).1 c.in_ok-grow.ensures.bytes
    (c.in_ok-write_at.ensures.bytes
    ∙ ap (λ (b : List ℕ). after (λ file. written file (0 - g.D.Disk.from c.grow.new.self) b) (g.D.Disk.held c.grow.new.self)) (c.as_slice.ensures ∙ c.in_ok-bytes.ensures))

pub returns-in_err-bytes-clause-refused : goal.returns-in_err-bytes-clause-refused
returns-in_err-bytes-clause-refused g c = grind (arith, nat_tests, on_err, start_refused, longer)

pub returns-in_err-start-clause-refused : goal.returns-in_err-start-clause-refused
returns-in_err-start-clause-refused g c = grind (arith, nat_tests, on_err, start_refused, longer, c.in_err-start.ensures.refused)

pub returns-in_err-grow-clause-refused : goal.returns-in_err-grow-clause-refused
returns-in_err-grow-clause-refused g c =
    let h : Header = c.args.header.now in
    let most = c.in_err-grow.ensures.between.1 in
    let end = c.end_of-end.ensures in
    let few : g.D.Disk.len c.grow.new.self ≤ end_of h (header_len h) 0 = omega arith in
    on_err c.from_residual-in_err-grow.result
    (grow_refused (canon h) (g.D.Disk.len c.grow.new.self) (end_of h (header_len h) 0) (g.D.Disk.held c.args.disk.now) (g.D.Disk.held c.start.new.self) (g.D.Disk.held c.grow.new.self)
    few (c.in_ok-start.ensures.emptied refl).1 c.in_err-grow.ensures.bytes)

pub returns-in_err-write_at-clause-refused : goal.returns-in_err-write_at-clause-refused
returns-in_err-write_at-clause-refused g c =
    let h : Header = c.args.header.now in
    let place : 0 - g.D.Disk.from c.grow.new.self ≡ 0 = omega arith in
    on_err c.from_residual-in_err-write_at.result
    (head_refused (canon h) c.as_slice.result.now (g.D.Disk.len c.grow.new.self) (end_of h (header_len h) 0) (0 - g.D.Disk.from c.grow.new.self)
    (g.D.Disk.held c.args.disk.now) (g.D.Disk.held c.start.new.self) (g.D.Disk.held c.grow.new.self) (g.D.Disk.held c.write_at.new.self)
    (front_fits h 0) (c.in_ok-grow.ensures.size ∙ c.end_of-end.ensures) place (c.as_slice.ensures ∙ c.in_ok-bytes.ensures) (c.in_ok-start.ensures.emptied refl).1
    c.in_ok-grow.ensures.bytes c.in_err-write_at.ensures.refused)
