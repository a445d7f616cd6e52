-- Scripts of worked runs on record variables, and what is printed of them.
use Rattle.std.specs.Prelude.{ℕ, List, ◌++◌, codes}
use Rattle.script_spec.specs.Texts.{text_line}

-- two ranks put the same record, which no one has yet
abbrev pub script_record_twice : List ℕ
script_record_twice =
    text_line (codes "create 1")
    ++ text_line (codes "ranks 2")
    ++ text_line (codes "dim t unlimited")
    ++ text_line (codes "var short s [t]")
    ++ text_line (codes "data")
    ++ text_line (codes "0 put_var1_all s [3] 7")
    ++ text_line (codes "1 put_var1_all s [3] 8")
    ++ text_line (codes "end")

abbrev pub printed_record_twice : List ℕ
printed_record_twice =
    text_line (codes "rank 0")
    ++ text_line (codes "0 put_var1_all overlap 0 0 1 0 86")
    ++ text_line (codes "pending 0")
    ++ text_line (codes "rank 1")
    ++ text_line (codes "0 put_var1_all overlap 0 0 1 0 86")
    ++ text_line (codes "pending 0")

-- the records 1, 3 and 5
abbrev pub script_odd_records : List ℕ
script_odd_records =
    text_line (codes "create 1")
    ++ text_line (codes "ranks 1")
    ++ text_line (codes "dim t unlimited")
    ++ text_line (codes "var short s [t]")
    ++ text_line (codes "data")
    ++ text_line (codes "0 put_vars_all s [1] [3] [2] 1 2 3")
    ++ text_line (codes "end")

-- the whole of a record variable of an opened dataset, and the record behind its last one
abbrev pub script_opened_records : List ℕ
script_opened_records =
    text_line (codes "open")
    ++ text_line (codes "ranks 1")
    ++ text_line (codes "data")
    ++ text_line (codes "0 get_var_all s")
    ++ text_line (codes "0 get_var1_all s [4]")
    ++ text_line (codes "end")

abbrev pub printed_opened_records : List ℕ
printed_opened_records =
    text_line (codes "rank 0")
    ++ text_line (codes "0 get_var_all ok 0 0 0 7")
    ++ text_line (codes "1 get_var1_all NC_EINVALCOORDS")
    ++ text_line (codes "pending 0")

-- fill of a fixed variable beside a record variable
abbrev pub script_fill_beside_records : List ℕ
script_fill_beside_records =
    text_line (codes "create 1")
    ++ text_line (codes "ranks 1")
    ++ text_line (codes "fill")
    ++ text_line (codes "dim t unlimited")
    ++ text_line (codes "dim x 2")
    ++ text_line (codes "var short s [t,x]")
    ++ text_line (codes "var byte b [x]")
    ++ text_line (codes "data")
    ++ text_line (codes "end")
