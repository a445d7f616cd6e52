-- A writable header with another record count is writable where its file does not end too far.
use Rattle.nc_classic_c.proofs.Words.{◌≡◌, ℕ, ◌^◌, ◌<◌, true, arith, nat_lt, nat_tests, and_from, ltb-true, and_first, and_second, Header, record_limit, is_sound, is_writable, is_writable_list, is_writable_dim, is_writable_attr, is_writable_var, fits_count, file_end}
use Rattle.nc_classic_c.specs.Sizes.{fits}
use Rattle.var_layout.proofs.CountedSound.{counted_sound}

few_fit : (version n : ℕ) → n < record_limit version → fits_count version n ≡ true
few_fit version n h = grind (arith, nat_tests)

pub counted_writable : (header : Header) (n : ℕ) → is_writable header ≡ true → fits n header ≡ true → is_writable (record header { records = n }) ≡ true
counted_writable header n h f =
    let few : n < record_limit header.version = ltb-true n (record_limit header.version) (and_first (nat_lt n (record_limit header.version)) (nat_lt (file_end header n) (2 ^ 62)) f) in
    let low : file_end header n < 2 ^ 62 = ltb-true (file_end header n) (2 ^ 62) (and_second (nat_lt n (record_limit header.version)) (nat_lt (file_end header n) (2 ^ 62)) f) in
    let vars : is_writable_list header.version (is_writable_var header) header.vars ≡ true = and_second _ _ h in
    let with_attrs = and_first _ (is_writable_list header.version (is_writable_var header) header.vars) h in
    let attrs : is_writable_list header.version (is_writable_attr header.version) header.attrs ≡ true = and_second _ _ with_attrs in
    let with_dims = and_first _ (is_writable_list header.version (is_writable_attr header.version) header.attrs) with_attrs in
    let dims : is_writable_list header.version (is_writable_dim header.version) header.dims ≡ true = and_second _ _ with_dims in
    let sound : is_sound header ≡ true = and_first _ _ (and_first _ (is_writable_list header.version (is_writable_dim header.version) header.dims) with_dims) in
    and_from _ _ (and_from _ _ (and_from _ _ (and_from _ _ (counted_sound header n sound few low) (few_fit header.version n few)) dims) attrs) vars
