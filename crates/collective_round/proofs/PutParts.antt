-- Puts on the parts of a disk, which are joined again.
use Rattle.collective_round.proofs.Words.{◌≡◌, ℕ, ◌+◌, ◌-◌, ◌<◌, inl, refl, sym, ◌∙◌, ap, subst, ◌⊎◌, List, length, map, Option, Some, None, Result, arith, flat_map, zip, IfSome, OnOk, AllZip, on_ok_weaker, Extent, Owned, AreFilled, entries_within, after, with_end, BothTold, told_as, at, byte_or, cells_said, said_at, said_by, Cell, write_cells, moved_down, IsFrom, IsWithin, store_calls, IsBetween, cell_of, Source, same_file, moved_said, none_below, clips, clips_in, cells_long, within_lowered, clips_within, clips_from, HasPut, PartState, Told, begin_or, with_parts, nat_tests, AreOn, AreSplit, common_steps}
use Rattle.collective_round.proofs.PartDomains.{cells_behind}
use Rattle.collective_round.proofs.PartLaws.{IsInPlace, AreBytes, all_calls, all_place, all_told, fine, flat_flat}

-- ---- the bytes of a part

module _ (cells : List Cell) where
  -- a byte that is put
  abbrev IsNew : ℕ → ℕ → ℕ → Type 0
  IsNew x old new = new ≡ byte_or (said_at (said_by cells) x) old

  -- one that is old or put
  abbrev IsEither : ℕ → ℕ → ℕ → Type 0
  IsEither x old new = (new ≡ old) ⊎ (new ≡ byte_or (said_at (said_by cells) x) old)

  abbrev part_of : ℕ → List ℕ → List ℕ
  part_of base p = write_cells p (moved_down base (clips base (base + length p) cells))

  part_byte : (base : ℕ) (p : List ℕ) (y x : ℕ) → x ≡ base + y → y < length p → at (part_of base p) y ≡ byte_or (said_at (said_by cells) x) (at p y)
  part_byte base p y x e h =
      let inside = clips base (base + length p) cells in
      grind (arith, nat_tests, cells_said (moved_down base inside) p y, at p y, said_at (said_by (moved_down base inside)), moved_said base inside x, clips_from base (base + length p) cells, clips_in base (base + length p) cells x)

  told_put : (base : ℕ) (held now : Option (List ℕ)) → now ≡ after (part_of base) held → BothTold (AreBytes IsNew base) held now
  told_put base held now e = grind (arith, nat_tests, cells_long, within_lowered, clips_from, clips_within, part_byte)

  told_between : (base : ℕ) (held now : Option (List ℕ)) → BothTold (λ file left. IsBetween file (part_of base file) left) held now → BothTold (AreBytes IsEither base) held now
  told_between base held now b = grind (arith, nat_tests, told_as, part_byte base)

  -- before the first cell nothing is put
  pub unput : (n x v : ℕ) → IsFrom n cells → x < n → v ≡ byte_or (said_at (said_by cells) x) v
  unput n x v h l = ap (λ (o : Option ℕ). byte_or o v) (sym (none_below n cells x h l))

  put_whole : (n : ℕ) (held now : Option (List ℕ)) → IsWithin cells n → IfSome held (λ file. length file ≡ n) → BothTold (AreBytes IsNew 0) held now → now ≡ after (λ file. write_cells file cells) held
  put_whole n None now within long h = h
  put_whole n (Some file) now within long h =
      let many = cells_long cells file (subst (λ (k : ℕ). IsWithin cells k) (sym long) within) in
      grind (arith, common_steps, same_file h.0 (write_cells file cells) (h.2.len ∙ sym many), cells_said cells file)

  between_whole : (held now : Option (List ℕ)) → BothTold (AreBytes IsEither 0) held now → BothTold (λ file left. IsBetween file (write_cells file cells) left) held now
  between_whole held now b =
      grind (arith, common_steps, told_as (AreBytes IsEither 0) (λ file left. IsBetween file (write_cells file cells) left) held now, cells_said cells)

-- ---- puts

-- the puts of all parts are those of the whole disk
pub record HasPutWhole {T E : Type 0} (source : Source) (list : List Owned) (ts : List Told) (old new : PartState) (end : Result T E) : Type 0 where
  pub place : IsInPlace old new
  pub bytes : OnOk end (new.held ≡ after (λ file. write_cells file (map (λ o. cell_of source o) list)) old.held)
  pub between : BothTold (λ file left. IsBetween file (write_cells file (map (λ o. cell_of source o) list)) left) old.held new.held
  pub device : OnOk end (new.calls ≡ with_end old.calls (flat_map store_calls ts))

pub parts_put : {D T E : Type 0} (state : D → PartState) (source : Source) (list : List Owned) (turns : Extent → List Told) (cover : List Extent) (disk front new : PartState) (domains : List Extent)
    (parts news : List D) (end : Result T E) → AreFilled list → AreOn list cover domains disk.len → AreSplit state disk front domains parts → IfSome disk.held (λ file. length file ≡ disk.len)
    → AllZip (λ p new. HasPut source list (turns p.1) (state p.0) (state new) end) (zip parts domains) news → new ≡ with_parts front (map state news)
    → HasPutWhole source list (flat_map turns domains) disk new end
parts_put {D} {T} {E} state source list turns cover disk front new domains parts news end filled a s long put back =
    subst (λ (n : PartState). HasPutWhole source list (flat_map turns domains) disk n end) (sym back) (record {
      place = all_place state disk front domains parts s Put news put (λ d p now h. record { from = h.from; len = h.len });
      bytes = on_ok_weaker end (λ h. put_whole cells disk.len disk.held _ within long h)
          (all_told state disk front domains parts s Put news put end (IsNew cells) long (λ x v l. unput cells _ x v behind l)
          (λ d p now h. on_ok_weaker end (λ e. told_put cells p.from p.held now.held e) h.bytes));
      between = between_whole cells disk.held _
          (all_told state disk front domains parts s Put news put fine (IsEither cells) long (λ x v l. inl refl)
          (λ d p now h. told_between cells p.from p.held now.held h.between));
      device = grind (arith, common_steps, flat_flat store_calls turns domains, all_calls state disk front domains parts s Put news put end (λ d. flat_map store_calls (turns d)) (λ d p now h. h.device));
    })
  where
    cells : List Cell
    cells = map (λ o. cell_of source o) list

    behind : IsFrom (begin_or disk.len domains) cells
    behind = cells_behind list cover domains disk.len a source disk.len filled

    within : IsWithin cells disk.len
    within = entries_within source list disk.len (λ o m. let end = (a.on o m).1 in omega arith)

    Put : Extent → PartState → PartState → Type 0
    Put d p now = HasPut source list (turns d) p now end
