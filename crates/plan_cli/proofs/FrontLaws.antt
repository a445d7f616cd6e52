-- The file of which the front is seen.
use Rattle.plan_cli.proofs.Words.{◌≡◌, ℕ, ◌-◌, ◌^◌, List, ◌++◌, length, take, min, replicate, Option, Some, None, inl, inr, refl, sym, subst, ap, ◌∙◌, arith, IfSome, take-append_seam, cases_lt, append-nil, length-append, length-replicate, take_all, Header, BeginsWith, front, IsOpened, IsOpenedFile}

-- a file of so many bytes that begins with these
begun : List ℕ → ℕ → List ℕ
begun bytes size = bytes ++ replicate (size - length bytes) 0

begun_long : (bytes : List ℕ) (size : ℕ) → length bytes ≡ min size (2 ^ 20) → length (begun bytes size) ≡ size
unfolding begun
begun_long bytes size e = omega (arith, length-append bytes (replicate (size - length bytes) 0), length-replicate {A = ℕ} (size - length bytes) 0)

begun_front : (bytes : List ℕ) (size : ℕ) → length bytes ≡ min size (2 ^ 20) → front (begun bytes size) ≡ bytes
unfolding begun
begun_front bytes size e = elim (cases_lt (2 ^ 20) size) [
  | inl h ↦
      (let own : 2 ^ 20 ≡ length bytes = omega (arith, e, h) in
      ap (λ (n : ℕ). take n (bytes ++ replicate (size - length bytes) 0)) own ∙ take-append_seam bytes (replicate (size - length bytes) 0))
  | inr h ↦
      (let none : size - length bytes ≡ 0 = omega (arith, e, h) in
      ap (λ (n : ℕ). take (2 ^ 20) (bytes ++ replicate n 0)) none ∙ ap (λ (t : List ℕ). take (2 ^ 20) t) (append-nil bytes)
      ∙ take_all (2 ^ 20) bytes (omega (arith, e)))
]

-- the file that is told, or one that begins with what was read
pub opened : (held : Option (List ℕ)) (bytes : List ℕ) (size : ℕ) (header : Header) (n : ℕ) → IfSome held (λ file. bytes ≡ front file)
    → IfSome held (λ file. size ≡ length file) → length bytes ≡ min size (2 ^ 20) → BeginsWith bytes header n → IsOpenedFile held header size
opened None bytes size header n f l e b = record {
  file = begun bytes size;
  told = tt;
  long = sym (begun_long bytes size e);
  count = n;
  begins = subst (λ (t : List ℕ). BeginsWith t header n) (sym (begun_front bytes size e)) b;
}
opened (Some file) bytes size header n f l e b =
    record { file = file; told = refl; long = l; count = n; begins = subst (λ (t : List ℕ). BeginsWith t header n) f b }

pub as_opened : (held : Option (List ℕ)) (header : Header) (size : ℕ) → IsOpenedFile held header size → IsOpened held header
as_opened held header size o = record { file = o.file; told = o.told; count = o.count; begins = o.begins }
