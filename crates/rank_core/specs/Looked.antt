-- What a call on a region comes to. (own)
--     as_look l                         the same as the word of serial_spec
--     ComesTo l looked                  posts or a refusal that come to it; want of memory is free
--     HasValues kind values n           a put has n values of the type's kind
--     some_unfit kind values k n        one of n values from number k on is not in the type's range
use Rattle.std.specs.Prelude.{◌≡◌, ◌≤◌, ℕ, Bool, false, not, List, [], ◌∷◌, Option, Some, None, Result, Ok, Err}
use Rattle.std.specs.List.{list_any, range_with_len}
use Rattle.nc_base.specs.declared.answer.CallErr.{CallErr}
use Rattle.nc_base.specs.declared.answer.CallErr.TheVariants as refusal
use Rattle.nc_base.specs.declared.answer.Code.{Code}
use Rattle.nc_base.specs.declared.answer.Code.TheVariants as code
use Rattle.nc_base.specs.declared.header.NcType.{NcType}
use Rattle.nc_base.specs.declared.plan.Post.{Post}
use Rattle.nc_base.specs.declared.request.Values.{Values}
use Rattle.serial_spec.specs.ExternalForm.{class_of}
use Rattle.serial_spec.specs.Looks as looks
use Rattle.serial_spec.specs.Looks.{kind_code, some_fits}
use Rattle.serial_spec.specs.RankMachine as machine
use Rattle.nc_base.specs.Values.{count_of}
use Rattle.serial_spec.specs.Request.{ext_of, value_at}
use Rattle.rank_core.specs.declared.look.Look.{Look}
use Rattle.rank_core.specs.declared.look.Look.TheVariants.{Refused, Empty, Asks}

abbrev pub as_look : Look → looks.Look
as_look (Refused code) = looks.Refused code
as_look Empty = looks.Empty
as_look (Asks posts) = looks.Asks posts

abbrev pub posts_of : Look → List Post
posts_of l = machine.posts_of (as_look l)

-- ---- posts, or a refusal

-- no post stands for no element
abbrev pub look_of : List Post → looks.Look
look_of [] = looks.Empty
look_of (p ∷ posts) = looks.Asks (p ∷ posts)

abbrev pub settled : Result (List Post) CallErr → Option looks.Look
settled (Ok posts) = Some (look_of posts)
settled (Err (refusal.Code c)) = Some (looks.Refused c)
settled (Err refusal.Memory) = None

abbrev pub ComesTo : looks.Look → Result (List Post) CallErr → Type 0
ComesTo l (Ok posts) = look_of posts ≡ l
ComesTo l (Err (refusal.Code c)) = looks.Refused c ≡ l
ComesTo l (Err refusal.Memory) = Unit {0}

-- it refuses, by this code
abbrev pub IsCode : Code → Code → Type 0
IsCode c d = (d ≡ c) × (d ≡ code.Ok → ⊥)

-- ---- values

abbrev pub HasValues : NcType → Option Values → ℕ → Type 0
HasValues kind None n = Unit {0}
HasValues kind (Some values) n = (kind_code (class_of kind) values ≡ code.Ok) × (n ≤ count_of values)

abbrev pub ext_at : NcType → Values → ℕ → List ℕ
ext_at kind values m = ext_of kind (value_at values m)

abbrev pub unfit_at : NcType → Values → ℕ → Bool
unfit_at kind values m = not (some_fits kind (value_at values m))

abbrev pub some_unfit : NcType → Option Values → ℕ → ℕ → Bool
some_unfit kind None k n = false
some_unfit kind (Some values) k n = list_any (λ m. unfit_at kind values m) (range_with_len k n)
