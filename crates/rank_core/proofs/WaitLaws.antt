-- A rank that offers waits for the reply, and keeps the gets of the offer; one that answers waits for none.
use Rattle.rank_core.proofs.Words.{◌≡◌, ℕ, refl, List, Bool, true, false, Option, Some, None, either, Given, Values, Header, Code, Post, Call, PostKind, MeetKind, Want, look, Rank, posts, post_after, buffer_code, bytes_in, detach_code, values_of_post, is_ok_code, WaitsFor, arith, nat_tests}
use Rattle.nc_base.specs.declared.answer.Code.TheVariants as code
use Rattle.nc_base.specs.declared.request.Call.TheVariants as call
use Rattle.nc_base.specs.declared.step.MeetKind.TheVariants as meets
use Rattle.serial_spec.specs.RankMachine as machine
use Rattle.serial_spec.specs.Looks.{Look, Asks}

abbrev DoesWait : Rank × Want → Type 0
DoesWait x = WaitsFor x.0 x.1

post_waits : (r : Rank) (id : ℕ) (kind : PostKind) (asked : List Post) (c : Code) → r.«open» ≡ None → DoesWait (post_after r id kind asked c)
post_waits r id kind asked code.Ok h = h
post_waits r id kind asked c h = h

posts_wait : (r : Rank) (id : ℕ) (kind : PostKind) (l : Look) → r.«open» ≡ None → DoesWait (posts r id kind l)
posts_wait r id kind (Asks asked) h = post_waits r id kind asked (buffer_code r kind (bytes_in asked)) h
posts_wait r id kind xs h = h

blocks_wait : (header : Header) (r : Rank) (all : Bool) (kind : MeetKind) (name : List ℕ) (given : Given) (values : Option Values) → r.«open» ≡ None
    → DoesWait (machine.blocks header r all kind name given values)
blocks_wait header r all kind name given values h = grind (arith, nat_tests)

pub step_waits : (header : Header) (r : Rank) (c : Call) → r.«open» ≡ None → DoesWait (machine.step header r c)
step_waits header r (call.Put all name given values) h = blocks_wait header r all meets.Put name given (Some values) h
step_waits header r (call.Get all name given) h = blocks_wait header r all meets.Get name given None h
step_waits header r (call.Post id kind name given values) h = posts_wait r id kind (look header r.known id name given (values_of_post kind values)) h
step_waits header r (call.Wait true choice) h = either DoesWait r.independent _ _ (λ t. refl) (λ t. refl)
step_waits header r (call.Wait false choice) h = either DoesWait r.independent _ _ (λ t. refl) (λ t. h)
step_waits header r (call.Attach size) h = grind (arith, nat_tests)
step_waits header r call.Detach h = either (λ (s : Rank). s.«open» ≡ None) (is_ok_code (detach_code r)) (record r { attached = None }) r (λ t. h) (λ t. h)
step_waits header r call.BeginIndep h = refl
step_waits header r call.EndIndep h = refl
step_waits header r call.SyncRecords h = refl
step_waits header r (call.FillRec name number share others) h = either DoesWait r.independent _ _ (λ t. refl) (λ t. refl)
step_waits header r xs h = h
