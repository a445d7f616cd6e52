-- Work on a file, item by item: what is left to be done gives the whole.
--     Work A          what items do to a file, the device calls that do it, and which bytes they spare
--     moves z, zeros z        slabs that are moved, and gaps that are cleared, in windows of z bytes
--     IsLeft          these items are left of all: done as well, they give the whole, and so far only bytes that they do not spare have changed
use Rattle.redef_mover.proofs.Words.{◌≡◌, ℕ, refl, sym, ◌∙◌, ap, map, subst, List, [], ◌∷◌, ◌++◌, Option, Some, None, inl, flat_map-append, fold-append, append-nil, reverse, DiskCall, after, with_end, after-after, after-same, with_end-nil, with_end-with_end, BothTold, Slab, in_left, in_right, stores, all_calls, all_cleared, all_moved, cleared, gap_calls, IsBeside, IsKept, IsOutside, IsUnmoved, Shift, further, slab_of, arith, nat_tests}
use Rattle.redef_laws.proofs.Orders.{in_reverse, reverse_in}
use Rattle.redef_mover.proofs.KeptLaws.{kept_more, kept_same}
use Rattle.redef_mover.proofs.MovesLaws.{called_append, moved_append}

pub record Work (A : Type 0) : Type 1 where
  pub done : List ℕ → List A → List ℕ
  pub calls : List A → List DiskCall
  pub Spares : List A → ℕ → Type 0
  pub none : (file : List ℕ) → done file [] ≡ file
  pub quiet : calls [] ≡ []
  pub both : (file : List ℕ) (xs ys : List A) → done file (xs ++ ys) ≡ done (done file xs) ys
  pub called : (xs ys : List A) → calls (xs ++ ys) ≡ calls xs ++ calls ys
  pub front : (xs ys : List A) (x : ℕ) → Spares (xs ++ ys) x → Spares xs x
  pub rest : (xs ys : List A) (x : ℕ) → Spares (xs ++ ys) x → Spares ys x

abbrev pub moves : ℕ → Work Slab
moves z = record {
  done = λ file ss. all_moved file ss;
  calls = λ ss. all_calls z ss;
  Spares = λ ss x. IsUnmoved ss x;
  none = λ file. refl;
  quiet = refl;
  both = moved_append;
  called = called_append z;
  front = λ ss ts x h s i. h s (in_left ss ts s i);
  rest = λ ss ts x h s i. h s (in_right ss ts s i);
}

abbrev pub zeros : ℕ → Work (ℕ × ℕ)
zeros z = record {
  done = λ file gs. all_cleared file gs;
  calls = λ gs. gap_calls z gs;
  Spares = λ gs x. IsBeside gs x;
  none = λ file. refl;
  quiet = refl;
  both = λ file gs hs. fold-append cleared file gs hs;
  called = λ gs hs. flat_map-append (λ g. stores z g.0 g.1) gs hs;
  front = λ gs hs x h g i. h g (in_left gs hs g i);
  rest = λ gs hs x h g i. h g (in_right gs hs g i);
}

-- the slabs of one record, so many bytes further than in record 0
abbrev pub placed : ℕ → ℕ → List Shift → List Slab
placed a b ss = map (further a b) (map slab_of ss)

pub record IsLeft {A : Type 0} (w : Work A) (P : ℕ → Type 0) (all left : List A) (held now : Option (List ℕ)) (told last : Option (List DiskCall)) : Type 0 where
  pub bytes : after (λ file. w.done file left) now ≡ after (λ file. w.done file all) held
  pub calls : with_end last (w.calls left) ≡ with_end told (w.calls all)
  pub others : (x : ℕ) → P x → w.Spares left x
  pub kept : BothTold (IsKept P) held now

module _ {A : Type 0} {w : Work A} {P : ℕ → Type 0} {all left : List A} where
  pub none_done : (held : Option (List ℕ)) (told : Option (List DiskCall)) → left ≡ all → ((x : ℕ) → P x → w.Spares all x) → IsLeft w P all left held held told told
  none_done held told e others = grind (arith, nat_tests, kept_same P held held)

  module _ {held mid : Option (List ℕ)} {told last : Option (List DiskCall)} where
    -- some of them are done, or partly so
    pub part_kept : (Q : ℕ → Type 0) (part rest : List A) (now : Option (List ℕ)) → left ≡ part ++ rest → ((x : ℕ) → w.Spares part x → Q x)
        → IsLeft w P all left held mid told last → BothTold (IsKept Q) mid now → BothTold (IsKept P) held now
    part_kept Q part rest now e spares l k =
        kept_more Q P held mid now (λ x h. spares x (w.front part rest x (subst (λ (xs : List A). w.Spares xs x) e (l.others x h)))) l.kept k

    pub part_done : (Q : ℕ → Type 0) (part rest : List A) (now : Option (List ℕ)) (next : Option (List DiskCall)) → left ≡ part ++ rest → ((x : ℕ) → w.Spares part x → Q x)
        → IsLeft w P all left held mid told last → now ≡ after (λ file. w.done file part) mid → next ≡ with_end last (w.calls part) → BothTold (IsKept Q) mid now
        → IsLeft w P all rest held now told next
    part_done Q part rest now next e spares l bytes calls kept = record {
      bytes = ap (λ f. after (λ file. w.done file rest) f) bytes ∙ after-after (λ file. w.done file rest) (λ file. w.done file part) mid
          ∙ after-same _ _ mid (λ file. sym (ap (λ xs. w.done file xs) e ∙ w.both file part rest)) ∙ l.bytes;
      calls = ap (λ cs. with_end cs (w.calls rest)) calls ∙ with_end-with_end last (w.calls part) (w.calls rest)
          ∙ ap (λ cs. with_end last cs) (sym (ap (λ xs. w.calls xs) e ∙ w.called part rest)) ∙ l.calls;
      others = λ x h. w.rest part rest x (subst (λ (xs : List A). w.Spares xs x) e (l.others x h));
      kept = part_kept Q part rest now e spares l kept;
    }

    -- those that are left are done by the last call
    pub last_bytes : (part : List A) (now : Option (List ℕ)) → left ≡ part → IsLeft w P all left held mid told last → now ≡ after (λ file. w.done file part) mid
        → now ≡ after (λ file. w.done file all) held
    last_bytes part now e l k = k ∙ ap (λ xs. after (λ file. w.done file xs) mid) (sym e) ∙ l.bytes

    pub last_calls : (part : List A) (next : Option (List DiskCall)) → left ≡ part → IsLeft w P all left held mid told last → next ≡ with_end last (w.calls part)
        → next ≡ with_end told (w.calls all)
    last_calls part next e l k = k ∙ ap (λ xs. with_end last (w.calls xs)) (sym e) ∙ l.calls

    pub last_kept : (Q : ℕ → Type 0) (part : List A) (now : Option (List ℕ)) → left ≡ part → ((x : ℕ) → w.Spares part x → Q x)
        → IsLeft w P all left held mid told last → BothTold (IsKept Q) mid now → BothTold (IsKept P) held now
    last_kept Q part now e spares l k = kept_more Q P held mid now (λ x h. spares x (subst (λ (xs : List A). w.Spares xs x) e (l.others x h))) l.kept k

    -- none is left
    pub whole_bytes : left ≡ [] → IsLeft w P all left held mid told last → mid ≡ after (λ file. w.done file all) held
    whole_bytes e l = last_bytes [] mid e l (by_mid mid)
      where
        by_mid : (m : Option (List ℕ)) → m ≡ after (λ file. w.done file []) m
        by_mid None = refl
        by_mid (Some file) = ap Some (sym (w.none file))

    pub whole_calls : left ≡ [] → IsLeft w P all left held mid told last → last ≡ with_end told (w.calls all)
    whole_calls e l = last_calls [] last e l (sym (with_end-nil last) ∙ ap (λ cs. with_end last cs) (sym w.quiet))

-- one gap
pub one_gap : (last next : Option (List DiskCall)) (z a n : ℕ) → next ≡ with_end last (stores z a n) → next ≡ with_end last (gap_calls z ((a, n) ∷ []))
one_gap last next z a n e = e ∙ ap (λ cs. with_end last cs) (sym (append-nil (stores z a n)))

pub alone : (a n x : ℕ) → IsBeside ((a, n) ∷ []) x → IsOutside a n x
alone a n x h = h (a, n) (inl refl)

-- slabs in the other order
pub unturned : (ss : List Slab) (x : ℕ) → IsUnmoved (reverse ss) x → IsUnmoved ss x
unturned ss x h s i c = h s (in_reverse ss s i) c

pub turned : (ss : List Slab) (x : ℕ) → IsUnmoved ss x → IsUnmoved (reverse ss) x
turned ss x h s i c = h s (reverse_in ss s i) c
