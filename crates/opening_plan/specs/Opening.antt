-- The opening of a dataset as it is planned. (own; the calls and the bytes are those of serial_spec)
--     IsOpeningOf script old header bytes opening    for each dataset of so many bytes, of which the first header is `old` and with `header` for the
--                                                    ranks: the calls by which it is made ready, and its length then
--     carry_calls z old new                          the calls after a file is long enough: the moves, the zeros, and the new header
--     added_calls script old new                     the same where the script adds something
--     AreLow slabs                                   each slab ends below 2^62, in the old file and in the new one
use Rattle.std.specs.Prelude.{◌≡◌, ℕ, ◌+◌, ◌^◌, ◌<◌, ◌==◌, List, [], ◌∷◌, ◌++◌, length, true, false}
use Rattle.nc_base.specs.declared.header.Header.{Header}
use Rattle.nc_base.specs.declared.script.Script.{Script}
use Rattle.nc_base.specs.declared.step.DiskCall.{DiskCall}
use Rattle.nc_base.specs.declared.step.DiskCall.TheVariants.{Store}
use Rattle.serial_spec.specs.DeviceCalls.{Slab, move_calls, zero_calls}
use Rattle.serial_spec.specs.HeaderBytes.{header_len}
use Rattle.serial_spec.specs.Redefinition.{brought}
use Rattle.serial_spec.specs.SerialEnd.{start}
use Rattle.overlay_laws.specs.Entries.{In}
use Rattle.dataset_start.specs.Readiness.{first_calls}
use Rattle.run_plan.specs.declared.run.Opening.{Opening}

pub record IsOpeningOf (script : Script) (old header : Header) (bytes : ℕ) (opening : Opening) : Type 0 where
  pub calls : (file : List ℕ) → length file ≡ bytes → opening.calls ≡ first_calls script old header file
  pub size : (file : List ℕ) → length file ≡ bytes → opening.size ≡ length (start script header (brought script old header file))

-- ---- a redefinition

abbrev pub carry_calls : ℕ → Header → Header → List DiskCall
carry_calls z old new = move_calls z old new ++ zero_calls z old new ++ Store 0 (header_len new) ∷ []

abbrev pub added_calls : Script → Header → Header → List DiskCall
added_calls script old new = elim (length script.extra == 0) [ true ↦ [] | false ↦ carry_calls script.hints.wr_buffer old new ]

abbrev pub AreLow : List Slab → Type 0
AreLow slabs = (s : Slab) → In slabs s → (s.from + s.len < 2 ^ 62) × (s.to + s.len < 2 ^ 62)
