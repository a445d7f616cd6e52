-- Lists that are laid into an array, and the extents of a region as C reads them. (own)
--     filled old items              the array with the first of the items, as many as there is room for
--     laid_at number from old x     the array with item `number` of a list of which it takes those from number `from` on
--     laid_from number from old items    the same of several items, of which the first has this number
--     AreLaid es from old new total  the array has those from number `from` on, and the total is their number
use Rattle.std.specs.Prelude.{◌≡◌, ℕ, ◌+◌, ◌-◌, List, [], ◌∷◌, ◌++◌, take, drop, length, slice_set, nat_le, nat_lt, ◌&&◌, if◌then◌else◌}
use Rattle.nc_base.specs.declared.plan.Extent.{Extent}
use Rattle.nc_classic_c.specs.declared.extents.NcvExtent.{NcvExtent}

abbrev pub shown : Extent → NcvExtent
shown e = record { at = e.at; len = e.len }

abbrev pub filled : {A : Type 0} → List A → List A → List A
filled old items = take (length old) items ++ drop (length items) old

abbrev pub laid_at : {A : Type 0} → ℕ → ℕ → List A → A → List A
laid_at number from old x = if nat_le from number && nat_lt (number - from) (length old) then slice_set old (number - from) x else old

abbrev pub laid_from : {A : Type 0} → ℕ → ℕ → List A → List A → List A
laid_from number from old [] = old
laid_from number from old (x ∷ items) = laid_from (number + 1) from (laid_at number from old x) items

abbrev pub AreLaid : {A : Type 0} → List A → ℕ → List A → List A → ℕ → Type 0
AreLaid items from old new total = (new ≡ filled old (drop from items)) × (total ≡ length items)
