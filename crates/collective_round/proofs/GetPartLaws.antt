-- Gets on the parts of a disk, which are joined again.
use Rattle.collective_round.proofs.Words.{◌≡◌, ◌∙◌, ℕ, ◌+◌, ◌≤◌, inl, inr, refl, sym, ap, subst, List, [], ◌∷◌, length, map, Option, Some, Result, arith, flat_map, zip, IfSome, OnOk, AllZip, Extent, with_end, load_calls, In, end_after, in_map, HasGot, PartState, Told, read, parts_of, with_parts, Adjoin, AreSplit, read_slice, nat_tests, common_steps}
use Rattle.collective_round.proofs.PartDomains.{part_bytes}
use Rattle.collective_round.proofs.PartLaws.{IsInPlace, IsOld, all_calls, all_place, all_told, fine, flat_flat, kept_told, told_kept}
use Rattle.collective_round.proofs.PartSplits.{next_begin}

-- ---- the bytes of a part

part_within : (disk : PartState) (domains : List Extent) (m : ℕ) → Adjoin domains → end_after m domains ≤ disk.len → (p : PartState) → In (parts_of disk domains) p → p.from + p.len ≤ disk.len
part_within disk [] m line room p h = absurd h
part_within disk (d ∷ rest) m line room p (inl same) = grind (arith, nat_tests, next_begin d rest m disk.len line room)
part_within disk (d ∷ rest) m line room p (inr h) = part_within disk rest (d.at + d.len) line.2 room p h

pub part_read : {D : Type 0} (state : D → PartState) (disk front : PartState) (domains : List Extent) (parts : List D) (file : List ℕ) → AreSplit state disk front domains parts
    → length file ≡ disk.len → disk.held ≡ Some file → (part : D) → In parts part → (state part).held ≡ Some (read file (state part).from (state part).len)
part_read state disk front domains parts file s long told part m =
    let within = part_within disk domains 0 s.line s.room (state part) (subst (λ (ps : List PartState). In ps (state part)) s.parts_are (in_map state parts part m)) in
    part_bytes state domains disk parts file s.parts_are told part m ∙ sym (ap Some (read_slice file (state part).from (state part).len (omega arith)))

-- what is known of each file that a disk may tell
pub told_read : {T E : Type 0} (r : Result T E) (held : Option (List ℕ)) (P : List ℕ → Type 0) → ((file : List ℕ) → held ≡ Some file → OnOk r (P file)) → OnOk r (IfSome held P)
told_read r held P h = grind (arith, nat_tests)

-- ---- parts that were read

-- the gets of all parts are those of the whole disk
pub record HasGotWhole {T E : Type 0} (ts : List Told) (old new : PartState) (end : Result T E) : Type 0 where
  pub place : IsInPlace old new
  pub held : new.held ≡ old.held
  pub device : OnOk end (new.calls ≡ with_end old.calls (flat_map load_calls ts))

pub parts_got : {D T E : Type 0} (state : D → PartState) (turns : Extent → List Told) (disk front new : PartState) (domains : List Extent) (parts news : List D) (end : Result T E)
    → AreSplit state disk front domains parts → IfSome disk.held (λ file. length file ≡ disk.len)
    → AllZip (λ p new. HasGot (turns p.1) (state p.0) (state new) end) (zip parts domains) news → new ≡ with_parts front (map state news)
    → HasGotWhole (flat_map turns domains) disk new end
parts_got {D} {T} {E} state turns disk front new domains parts news end s long got back =
    subst (λ (n : PartState). HasGotWhole (flat_map turns domains) disk n end) (sym back) (record {
      place = all_place state disk front domains parts s Got news got (λ d p now h. record { from = h.from; len = h.len });
      held = kept_told disk.held (with_parts front (map state news)).held
          (all_told state disk front domains parts s Got news got fine IsOld long (λ x v l. refl) (λ d p now h. told_kept p.from p.held now.held h.held));
      device = grind (arith, common_steps, flat_flat load_calls turns domains, all_calls state disk front domains parts s Got news got end (λ d. flat_map load_calls (turns d)) (λ d p now h. h.device));
    })
  where
    Got : Extent → PartState → PartState → Type 0
    Got d p now = HasGot (turns d) p now end
