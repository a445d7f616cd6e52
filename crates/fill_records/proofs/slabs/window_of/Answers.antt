-- The bytes of a window are some of the copies.
use Rattle.fill_records.proofs.Words.{◌∙◌, ◌*◌, List, ℕ, ap, arith, length, refl, repeated}
use Rattle.fill_records.proofs.RepeatedLaws.{repeated_long}
use Rattle.fill_records.proofs.WindowLaws.{window_bytes}
use Rattle.fill_records.proofs.slabs.window_of.Goals as goal

pub returns-clause-bytes : goal.returns-clause-bytes
returns-clause-bytes c =
    window_bytes c.args.value.now c.args.copies.now c.bytes_from.result.now (length c.args.value.now) (c.args.number * c.args.size) c.min.result refl
    c.requires.value c.requires.copies (omega (arith, c.requires.room, c.min.ensures)) c.bytes_from.ensures
    ∙ ap (λ (n : ℕ). repeated c.args.value.now (c.args.number * c.args.size) n) c.min.ensures

pub returns-clause-long : goal.returns-clause-long
returns-clause-long c = ap (λ (b : List ℕ). length b) (returns-clause-bytes c) ∙ repeated_long c.args.value.now (c.args.number * c.args.size) _
