-- Scripts with attributes, with fill values, and of datasets that are opened, and what is printed of them.
use Rattle.std.specs.Prelude.{ℕ, List, ◌++◌, codes}
use Rattle.script_spec.specs.Texts.{text_line}

abbrev pub script_atts : List ℕ
script_atts =
    text_line (codes "# a comment")
    ++ text_line (codes "create 1")
    ++ text_line (codes "  ranks\t02")
    ++ text_line (codes "hint threads off")
    ++ text_line (codes "dim t unlimited")
    ++ text_line (codes "dim x 4")
    ++ text_line (codes "var float f [t,x]")
    ++ text_line (codes "var char c []")
    ++ text_line (codes "att : title char \"a \\\"b\\x41\"")
    ++ text_line (codes "att f scale float x3F800000 x0")
    ++ text_line (codes "att c range short 1 -2")
    ++ text_line (codes "att f none int")
    ++ text_line (codes "att f step int seq 3 10 -5")
    ++ text_line (codes "hint cb_nodes 3")
    ++ text_line (codes "")
    ++ text_line (codes "data")
    ++ text_line (codes "1 iput_var 4294967295 f seqx 4 x10 x1")
    ++ text_line (codes "1 cancel all")
    ++ text_line (codes "0 put_var1 c [] \"q\"")
    ++ text_line (codes "0 buffer_attach 9")
    ++ text_line (codes "end")
    ++ text_line (codes "# after")

abbrev pub script_fill : List ℕ
script_fill =
    text_line (codes "create 1")
    ++ text_line (codes "ranks 1")
    ++ text_line (codes "fill")
    ++ text_line (codes "dim x 4")
    ++ text_line (codes "var int v [x]")
    ++ text_line (codes "data")
    ++ text_line (codes "0 put_var1_all v [1] 5")
    ++ text_line (codes "0 get_var_all v")
    ++ text_line (codes "end")

abbrev pub printed_fill : List ℕ
printed_fill =
    text_line (codes "rank 0")
    ++ text_line (codes "0 put_var1_all ok")
    ++ text_line (codes "1 get_var_all ok -2147483647 5 -2147483647 -2147483647")
    ++ text_line (codes "pending 0")

abbrev pub script_fill_record : List ℕ
script_fill_record =
    text_line (codes "create 1")
    ++ text_line (codes "ranks 2")
    ++ text_line (codes "dim t unlimited")
    ++ text_line (codes "dim x 3")
    ++ text_line (codes "var short s [t,x]")
    ++ text_line (codes "att s _FillValue short -1")
    ++ text_line (codes "data")
    ++ text_line (codes "0 fill_var_rec s 1")
    ++ text_line (codes "1 fill_var_rec s 1")
    ++ text_line (codes "end")

abbrev pub printed_fill_record : List ℕ
printed_fill_record =
    text_line (codes "rank 0")
    ++ text_line (codes "0 fill_var_rec ok")
    ++ text_line (codes "pending 0")
    ++ text_line (codes "rank 1")
    ++ text_line (codes "0 fill_var_rec ok")
    ++ text_line (codes "pending 0")

abbrev pub script_fill_fixed : List ℕ
script_fill_fixed =
    text_line (codes "create 1")
    ++ text_line (codes "ranks 1")
    ++ text_line (codes "dim x 4")
    ++ text_line (codes "var int v [x]")
    ++ text_line (codes "data")
    ++ text_line (codes "0 fill_var_rec v 0")
    ++ text_line (codes "0 fill_var_rec w 0")
    ++ text_line (codes "end")

abbrev pub printed_fill_fixed : List ℕ
printed_fill_fixed =
    text_line (codes "rank 0")
    ++ text_line (codes "0 fill_var_rec ENOTREC")
    ++ text_line (codes "1 fill_var_rec NC_ENOTVAR")
    ++ text_line (codes "pending 0")

abbrev pub script_extras : List ℕ
script_extras =
    text_line (codes "open")
    ++ text_line (codes "ranks 1")
    ++ text_line (codes "dim y 2")
    ++ text_line (codes "var uint64 q [x,y]")
    ++ text_line (codes "att q units char \"m\"")
    ++ text_line (codes "att : n int 3")
    ++ text_line (codes "data")
    ++ text_line (codes "end")

-- a dataset that is opened, and one to which a variable is added
abbrev pub script_opened : List ℕ
script_opened =
    text_line (codes "open")
    ++ text_line (codes "ranks 1")
    ++ text_line (codes "data")
    ++ text_line (codes "0 get_var_all v")
    ++ text_line (codes "end")

abbrev pub printed_opened : List ℕ
printed_opened =
    text_line (codes "rank 0")
    ++ text_line (codes "0 get_var_all ok 1 2 3 4")
    ++ text_line (codes "pending 0")

abbrev pub script_added : List ℕ
script_added =
    text_line (codes "open")
    ++ text_line (codes "ranks 1")
    ++ text_line (codes "var short q [x]")
    ++ text_line (codes "data")
    ++ text_line (codes "0 get_var_all v")
    ++ text_line (codes "0 get_var_all q")
    ++ text_line (codes "end")

abbrev pub printed_added : List ℕ
printed_added =
    text_line (codes "rank 0")
    ++ text_line (codes "0 get_var_all ok 1 2 3 4")
    ++ text_line (codes "1 get_var_all ok 0 0 0 0")
    ++ text_line (codes "pending 0")
