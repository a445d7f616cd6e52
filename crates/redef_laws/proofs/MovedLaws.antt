-- A file in which each slab stands at its new place is the redefined one: the redefined file is such a file, and there is no other.
use Rattle.redef_laws.proofs.Words.{◌≡◌, ℕ, ◌+◌, ◌-◌, ◌<◌, ◌≤◌, refl, sym, ◌∙◌, ap, subst, inl, inr, ◌⊎◌, List, [], ◌∷◌, get_or, true, arith, cases_lt, same_number_lists, get_or-take, Header, Extra, Slab, slabs, at, header_len, is_sound, redefined, KeepsVars, IsRedefined, redefined_keeps, read_at, redefined_is, In, IsApplied, new_end, IsMoved, nat_tests}
use Rattle.redef_laws.proofs.ShiftLaws.{sound_before}
use Rattle.redef_laws.proofs.ElementSlabs.{element_in_slab, slab_bytes}
pub use Rattle.serial_spec.proofs.SpellingLaws.{writable_is_sound}

-- ---- a byte lies in a slab, or apart from all

abbrev IsIn : List Slab → ℕ → Type 0
IsIn ss x = (s : Slab) × In ss s × (s.to ≤ x) × (x < s.to + s.len)

abbrev IsBare : List Slab → ℕ → Type 0
IsBare ss x = (s : Slab) → In ss s → (x < s.to) ⊎ (s.to + s.len ≤ x)

in_or_bare : (ss : List Slab) (x : ℕ) → IsIn ss x ⊎ IsBare ss x
in_or_bare [] x = inr (λ s h. absurd h)
in_or_bare (t ∷ ss) x = elim (in_or_bare ss x) [
  | inl i ↦ inl (i.0, inr i.1, i.2, i.3)
  | inr rest ↦ elim (cases_lt x t.to) [
    | inl low ↦ inr (λ s h. grind (arith, nat_tests, h, low, rest s))
    | inr low ↦ elim (cases_lt x (t.to + t.len)) [ inl high ↦ inl (t, inl refl, low, high) | inr high ↦ inr (λ s h. grind (arith, nat_tests, h, high, rest s)) ]
  ]
]

-- ---- there is one such file

at_moved : (old new : Header) (file left : List ℕ) → IsMoved old new file left → (x : ℕ) → (i : IsIn (slabs old new) x) → at left x ≡ at file (i.0.from + (x - i.0.to))
at_moved old new file left m x i = grind (arith, nat_tests)

same_byte : (old new : Header) (file a b : List ℕ) → IsMoved old new file a → IsMoved old new file b → (x : ℕ) → at a x ≡ at b x
same_byte old new file a b m n x = elim (cases_lt x (header_len new)) [
  | inl l ↦ sym (get_or-take (header_len new) a x 0 l) ∙ ap (λ (f : List ℕ). get_or f x 0) (m.head ∙ sym n.head) ∙ get_or-take (header_len new) b x 0 l
  | inr low ↦ elim (cases_lt x (new_end old new)) [
    | inl high ↦ elim (in_or_bare (slabs old new) x) [
      | inl i ↦ at_moved old new file a m x i ∙ sym (at_moved old new file b n x i)
      | inr f ↦ m.bare x low high f ∙ sym (n.bare x low high f)
    ]
    | inr high ↦ m.past x high ∙ sym (n.past x high)
  ]
]

moved_once : (old new : Header) (file a b : List ℕ) → IsMoved old new file a → IsMoved old new file b → a ≡ b
moved_once old new file a b m n = same_number_lists a b (m.long ∙ sym n.long) (λ x l. same_byte old new file a b m n x)

-- ---- the redefined file is one

pub redefined_moved : (old new : Header) (file left : List ℕ) → is_sound old ≡ true → KeepsVars old new → IsRedefined old new file left → IsMoved old new file left
redefined_moved old new file left sound keeps r =
    record {
      long = r.long;
      head = r.head;
      moved = λ s h d l.
          let e = slab_bytes old new keeps s h d l in
          grind (arith, nat_tests, e.after, e.before, read_at left e.to e.size e.byte e.inside, read_at file e.from e.size e.byte e.inside, r.moved e.from e.to e.size e.moves);
      bare = λ x low high f. r.bare x low high (λ from to size m.
          let found = element_in_slab old new sound keeps from to size m in
          grind (arith, nat_tests, f found.0 found.1, found.2.new, found.2.inside));
      past = r.past;
    }

-- ---- the law

pub moved_is_redefined : (old new : Header) (extras : List Extra) (file left : List ℕ) → is_sound new ≡ true → IsApplied old extras new → IsMoved old new file left
    → left ≡ redefined file old new
moved_is_redefined old new extras file left sound a m =
    let keeps : KeepsVars old new = subst (KeepsVars old) (sym a.made) (redefined_keeps old extras (sound_before old a.redefinable)) in
    moved_once old new file left (redefined file old new) m
    (redefined_moved old new file (redefined file old new) (sound_before old a.redefinable) keeps (redefined_is file old new sound keeps))
