-- A fault of a line keeps what is wrong.
use Rattle.ncmpi_script.proofs.Words.{ℕ, Result, ap, ScriptKind, ReadErr, Fails, FailsAt, at_line, on_line}
use Rattle.script_words.specs.declared.fault.ReadErr.TheVariants as errors

pub given_at : {Y : Type 0} (n : ℕ) (e : ReadErr) (read : Result Y ScriptKind) → Fails e read → FailsAt (on_line n e) (at_line n read)
given_at n errors.Memory read h = tt
given_at n (errors.Fault k) read h = ap (at_line n) h
