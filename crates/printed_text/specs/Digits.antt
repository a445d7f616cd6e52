-- Digits of bits, looked up by names and ids. (own)
use Rattle.std.specs.Prelude.{◌≡◌, ℕ, List, Option, option_map, find, bytes_eq, nat_eq}
use Rattle.std.specs.Borrow.{Bor}
use Rattle.std.specs.HashMap.{HashMap, get}
use Rattle.std.specs.declared.hash.FoldHasher.{FoldHasher}
use Rattle.std.specs.declared.hash.BuildHasherDefault.{BuildHasherDefault}
use Rattle.nc_base.specs.declared.header.Header.{Header}
use Rattle.nc_base.specs.declared.header.Var.{Var}
use Rattle.nc_base.specs.declared.request.Call.{Call}
use Rattle.script_spec.specs.Texts.{digits_of, digits_of_name, posted_name, posts_id}

-- of the first variable of this name
abbrev pub named_digits : List Var → List ℕ → Option ℕ
named_digits vars name = option_map (λ v. digits_of v.kind) (find (λ v. bytes_eq v.name name) vars)

-- of the first post of this id
abbrev pub posted_digits : Header → List Call → ℕ → Option ℕ
posted_digits header calls id = option_map (λ c. digits_of_name header (posted_name c)) (find (posts_id id) calls)

-- the index has the digits of each name's first variable
abbrev pub FindsNames : List Var → HashMap (Bor (List ℕ)) ℕ (BuildHasherDefault FoldHasher) → Type 0
FindsNames vars index = (name : Bor (List ℕ)) → get (λ x y. bytes_eq x.now y.now) index name ≡ named_digits vars name.now

-- the index has the digits of each id's first post
abbrev pub FindsPosts : Header → List Call → HashMap ℕ ℕ (BuildHasherDefault FoldHasher) → Type 0
FindsPosts header calls index = (id : ℕ) → get nat_eq index id ≡ posted_digits header calls id
