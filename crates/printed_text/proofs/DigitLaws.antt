-- Digits, looked up by names and ids.
use Rattle.printed_text.proofs.Cited.{◌≡◌, ℕ, List, [], ◌∷◌, length, Bool, cond, Option, Some, None, refl, sym, ap, ◌∙◌, unwrap_or, option_map, nat_lt, bytes_eq, find, position, slice_get, either, position_or_len, find_at, slice_get_past, ltb-false, Bor, Call, Header, Var, FindsNames, FindsPosts, digits_of, digits_of_name, digits_of_var, named_digits}
use Rattle.printed_text.proofs.IndexLaws.{first_told}
use Rattle.std.specs.HashMap.{HashMap, IsEmpty, Updates}
use Rattle.std.specs.Map.{lookup}
use Rattle.std.specs.Prelude.{nat_eq}
use Rattle.std.specs.declared.hash.FoldHasher.{FoldHasher}
use Rattle.std.specs.declared.hash.BuildHasherDefault.{BuildHasherDefault}
use Rattle.nc_base.specs.declared.request.Call.TheVariants as call
use Rattle.nc_base.specs.declared.request.Given.{Given}
use Rattle.nc_base.specs.declared.request.PostKind.{PostKind}
use Rattle.nc_base.specs.declared.request.Values.{Values}
use Rattle.script_spec.specs.Texts.{posted_name, posts_id}

told : (o : Option Var) → unwrap_or (option_map (λ v. digits_of v.kind) o) 16 ≡ elim o [ None ↦ 16 | Some v ↦ digits_of v.kind ]
told None = refl
told (Some v) = refl

-- of the first variable that a test passes
named_by : (header : Header) (p : Var → Bool) → unwrap_or (option_map (λ v. digits_of v.kind) (find p header.vars)) 16 ≡ digits_of_var header (position p header.vars)
named_by header p =
    let k = position_or_len p header.vars in
    rw (find_at p header.vars)
    (either (λ (o : Option ℕ). unwrap_or (option_map (λ (v : Var). digits_of v.kind) (slice_get header.vars k)) 16 ≡ digits_of_var header o) (nat_lt k (length header.vars)) (Some k) None
    (λ e. told (slice_get header.vars k)) (λ e. rw (slice_get_past header.vars k (ltb-false k (length header.vars) e))))

pub digits_named : (header : Header) (name : List ℕ) → unwrap_or (named_digits header.vars name) 16 ≡ digits_of_name header name
digits_named header name = named_by header (λ v. bytes_eq v.name name)

-- ---- an index of names

pub names_none : (index : HashMap (Bor (List ℕ)) ℕ (BuildHasherDefault FoldHasher)) → IsEmpty index → FindsNames [] index
names_none index none q = ap (λ (es : List (Bor (List ℕ) × ℕ)). lookup (λ k. bytes_eq q.now k.now) es) none

pub name_put : (v : Var) (old new : HashMap (Bor (List ℕ)) ℕ (BuildHasherDefault FoldHasher)) (name : Bor (List ℕ)) (digits : ℕ) → name.now ≡ v.name → digits ≡ digits_of v.kind
    → Updates (λ x y. bytes_eq x.now y.now) old new name (Some digits) → (vars : List Var) → FindsNames vars old → FindsNames (v ∷ vars) new
name_put v old new name digits named told updates vars known q =
    updates.0 q
    ∙ ap (λ (o : Option ℕ). cond (bytes_eq name.now q.now) (Some digits) o) (known q)
    ∙ first_told (λ (w : Var). digits_of w.kind) (bytes_eq name.now q.now) v digits (find (λ w. bytes_eq w.name q.now) vars) told
    ∙ ap (λ (n : List ℕ). option_map (λ (w : Var). digits_of w.kind) (cond (bytes_eq n q.now) (Some v) (find (λ w. bytes_eq w.name q.now) vars))) named

-- ---- an index of posts

pub posts_none : (header : Header) (index : HashMap ℕ ℕ (BuildHasherDefault FoldHasher)) → IsEmpty index → FindsPosts header [] index
posts_none header index none q = ap (λ (es : List (ℕ × ℕ)). lookup (nat_eq q) es) none

pub post_put : (header : Header) (c : Call) (own : ℕ) (kind : PostKind) (name : List ℕ) (given : Given) (values : Values) (old new : HashMap ℕ ℕ (BuildHasherDefault FoldHasher)) (digits : ℕ)
    → c ≡ call.Post own kind name given values → digits ≡ digits_of_name header name
    → Updates nat_eq old new own (Some digits) → (calls : List Call) → FindsPosts header calls old → FindsPosts header (c ∷ calls) new
post_put header c own kind name given values old new digits is told updates calls known q =
    updates.0 q
    ∙ ap (λ (o : Option ℕ). cond (nat_eq own q) (Some digits) o) (known q)
    ∙ first_told (λ (w : Call). digits_of_name header (posted_name w)) (nat_eq own q) (call.Post own kind name given values) digits (find (posts_id q) calls) told
    ∙ ap (λ (w : Call). option_map (λ (x : Call). digits_of_name header (posted_name x)) (cond (posts_id q w) (Some w) (find (posts_id q) calls))) (sym is)
