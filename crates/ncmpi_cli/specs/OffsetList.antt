-- What a list of offsets tells.
--     Lists held text                  the text has the offsets of the header that the front of the file spells
--     ListsWhole, ListsFront           it was given whole, or a front of it
--     IsSoundFront, IsFaultyFront      nothing, or something, is wrong with that header, which is told
use Rattle.std.specs.Prelude.{ℕ, ◌≡◌, ◌⊎◌, List, take, Option, IsSomeAnd}
use Rattle.nc_base.specs.declared.errors.HeaderErr.{HeaderErr}
use Rattle.nc_base.specs.declared.header.Header.{Header}
use Rattle.nc_outside.specs.Told.{with_end}
use Rattle.serial_spec.specs.HeaderFaults.{HasFault}
use Rattle.script_spec.specs.Texts.{offsets_text}
use Rattle.dataset_start.specs.Dataset.{front}
use Rattle.dataset_start.specs.Readiness.{IsOpened}

abbrev pub Lists : Option (List ℕ) → List ℕ → Type 0
Lists held text = (header : Header) × (IsOpened held header × (text ≡ offsets_text header))

abbrev pub ListsWhole : Option (List ℕ) → Option (List ℕ) → Option (List ℕ) → Type 0
ListsWhole held before after = (text : List ℕ) × (Lists held text × (after ≡ with_end before text))

abbrev pub ListsFront : Option (List ℕ) → Option (List ℕ) → Option (List ℕ) → Type 0
ListsFront held before after = (text : List ℕ) × (Lists held text × ((count : ℕ) × (after ≡ with_end before (take count text))))

abbrev pub IsSoundFront : Option (List ℕ) → Type 0
IsSoundFront held = IsSomeAnd held (λ file. (e : HeaderErr) → HasFault (front file) e → ⊥)

abbrev pub IsFaultyFront : Option (List ℕ) → Type 0
IsFaultyFront held = IsSomeAnd held (λ file. (e : HeaderErr) × HasFault (front file) e)

-- the statuses with which a list of offsets may end
abbrev pub IsListStatus : ℕ → Type 0
IsListStatus status = (status ≡ 0) ⊎ ((status ≡ 4) ⊎ ((status ≡ 6) ⊎ ((status ≡ 7) ⊎ (status ≡ 8))))

-- those at which the header was read
abbrev pub IsOfReadHeader : ℕ → Type 0
IsOfReadHeader status = (status ≡ 0) ⊎ ((status ≡ 4) ⊎ (status ≡ 6))
