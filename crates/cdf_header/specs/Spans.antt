-- Which spans share a byte with which, where records are `size` bytes apart.
use Rattle.std.specs.Prelude.{◌≡◌, ℕ, suc, ◌+◌, ◌<◌, ◌≤◌, min, max, List, [], ◌∷◌, Bool, false, ◌&&◌, ◌||◌, nat_lt, nat_le, if◌then◌else◌, Option, Some, None, option_map}
use Rattle.std.specs.List.{All, AllPairs, Contains}
use Rattle.std.specs.Option.{option_or}
use Rattle.nc_base.specs.declared.header.Header.{Header}
use Rattle.nc_base.specs.declared.header.Var.{Var}
use Rattle.serial_spec.specs.Layout.{slab, is_record}
use Rattle.cdf_header.specs.declared.spans.Span.{Span}

abbrev pub span_of : Header → ℕ → Var → Span
span_of header k v = record { begin = v.begin; end = v.begin + slab header v; number = k; is_record = is_record header v }

-- the spans of variables of which the first has number k
abbrev pub spans_of : Header → ℕ → List Var → List Span
spans_of header k [] = []
spans_of header k (v ∷ vs) = span_of header k v ∷ spans_of header (suc k) vs

abbrev pub fixed_meet : Span → Span → Bool
fixed_meet p q = nat_lt (max p.begin q.begin) p.end && nat_lt (max p.begin q.begin) q.end

-- two record variables, p beginning no later than q
abbrev pub records_meet : ℕ → Span → Span → Bool
records_meet size p q = nat_lt q.begin p.end || nat_lt (p.begin + size) q.end

abbrev pub share : ℕ → Span → Span → Bool
share size p q =
    if p.is_record
    then (if q.is_record
    then (if nat_le p.begin q.begin then records_meet size p q else records_meet size q p)
    else nat_lt p.begin q.end)
    else (if q.is_record then nat_lt q.begin p.end else fixed_meet p q)

-- the first of the spans that shares a byte with p
abbrev pub partner : ℕ → Span → List Span → Option ℕ
partner size p [] = None
partner size p (q ∷ qs) = if share size p q then Some q.number else partner size p qs

-- p with itself, where it begins before the header's end, else with its partner
abbrev pub pair_at : ℕ → ℕ → Span → List Span → Option (ℕ × ℕ)
pair_at size first p ps = if nat_lt p.begin first then Some (p.number, p.number) else option_map (λ m. (p.number, m)) (partner size p ps)

abbrev pub shared_pair : ℕ → ℕ → List Span → Option (ℕ × ℕ)
shared_pair size first [] = None
shared_pair size first (p ∷ ps) = option_or (pair_at size first p ps) (shared_pair size first ps)

-- ---- spans that are seen to share no byte

-- p ends before q begins, if one of them has a number below n
abbrev pub EndsBefore : ℕ → Span → Span → Type 0
EndsBefore n p q = min p.number q.number < n → p.end ≤ q.begin

-- q's record ends before p's next one begins
abbrev pub EndsBeforeNext : ℕ → ℕ → Span → Span → Type 0
EndsBeforeNext n size p q = min p.number q.number < n → q.end ≤ p.begin + size

-- No span with a number below n shares a byte with another.
pub record AreApart (n size : ℕ) (fixed records : List Span) : Type 0 where
  pub fixed_apart : AllPairs (EndsBefore n) fixed
  pub records_apart : AllPairs (EndsBefore n) records
  pub fixed_first : All (λ p. All (λ q. EndsBefore n p q) records) fixed
  pub next_apart : All (λ p. All (λ q. EndsBeforeNext n size p q) records) records

-- the spans of one kind
abbrev pub HasAll : Bool → List Span → List Span → Type 0
HasAll record_kind spans some = All (λ s. s.is_record ≡ record_kind → Contains some s) spans

pub record AreSpans (spans : List Span) : Type 0 where
  pub rising : AllPairs (λ p q. p.number < q.number) spans
  pub filled : All (λ s. s.begin < s.end) spans

-- no span with a number below n shares a byte with one behind it
abbrev pub NoneShares : ℕ → ℕ → List Span → Type 0
NoneShares n size spans = AllPairs (λ p q. p.number < n → share size p q ≡ false) spans
