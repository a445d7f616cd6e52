-- Bytes that entries of different requests hold. (own)
--     key_of o              the request of an entry
--     IsClearAt list x      the entries that hold the byte are of one request
--     AreTwo list x         two entries of different requests hold the byte
--     IsFirst list x        it is the least such byte
--     HasHolder list k x    an entry of this request holds the byte
--     ArePairAt list a b x  the two least requests that hold it are these
use Rattle.std.specs.Prelude.{◌≡◌, ℕ, ◌+◌, ◌<◌, ◌≤◌, List, true, false, ◌⊎◌}
use Rattle.nc_base.specs.declared.plan.Owned.{Owned}
use Rattle.serial_spec.specs.SharedByte.{Key, same_key, key_below}
use Rattle.overlay_laws.specs.Entries.{In}

abbrev pub key_of : Owned → Key
key_of o = (o.rank, o.request)

abbrev pub Covers : Owned → ℕ → Type 0
Covers o x = (o.extent.at ≤ x) × (x < o.extent.at + o.extent.len)

abbrev pub IsClearAt : List Owned → ℕ → Type 0
IsClearAt list x = (o p : Owned) → In list o → In list p → Covers o x → Covers p x → same_key (key_of o) (key_of p) ≡ true

pub record AreTwo (list : List Owned) (x : ℕ) : Type 0 where
  pub one : Owned
  pub other : Owned
  pub one_in : In list one
  pub other_in : In list other
  pub one_covers : Covers one x
  pub other_covers : Covers other x
  pub differ : same_key (key_of one) (key_of other) ≡ false

abbrev pub IsFirst : List Owned → ℕ → Type 0
IsFirst list x = AreTwo list x × ((y : ℕ) → y < x → IsClearAt list y)

pub record HasHolder (list : List Owned) (k : Key) (x : ℕ) : Type 0 where
  pub holder : Owned
  pub is_one : In list holder
  pub covers : Covers holder x
  pub key : key_of holder ≡ k

pub record ArePairAt (list : List Owned) (a b : Key) (x : ℕ) : Type 0 where
  pub first : HasHolder list a x
  pub second : HasHolder list b x
  pub in_order : key_below a b ≡ true
  pub least : (o : Owned) → In list o → Covers o x → (key_of o ≡ a) ⊎ (key_of o ≡ b) ⊎ (key_below b (key_of o) ≡ true)
