-- Scripts that are refused.
use Rattle.std.specs.Prelude.{ℕ, List, ◌++◌, codes}
use Rattle.script_spec.specs.Texts.{text_line}

abbrev pub faulty_unclosed : List ℕ
faulty_unclosed =
    text_line (codes "create 1")
    ++ text_line (codes "ranks 1")
    ++ text_line (codes "var char c []")
    ++ text_line (codes "data")
    ++ text_line (codes "0 put_var_all c \"ab")

abbrev pub faulty_escape : List ℕ
faulty_escape =
    text_line (codes "create 1")
    ++ text_line (codes "ranks 1")
    ++ text_line (codes "att : a char \"\\q\"")

abbrev pub faulty_glued : List ℕ
faulty_glued =
    text_line (codes "create 1")
    ++ text_line (codes "ranks 1")
    ++ text_line (codes "att : a char \"q\"r")

abbrev pub faulty_extra : List ℕ
faulty_extra =
    text_line (codes "create 1")
    ++ text_line (codes "ranks 1 2")

abbrev pub faulty_name : List ℕ
faulty_name =
    text_line (codes "create 1")
    ++ text_line (codes "ranks 1")
    ++ text_line (codes "dim x! 4")

abbrev pub faulty_later_record : List ℕ
faulty_later_record =
    text_line (codes "create 1")
    ++ text_line (codes "ranks 1")
    ++ text_line (codes "dim t unlimited")
    ++ text_line (codes "dim x 2")
    ++ text_line (codes "var int v [x,t]")

abbrev pub faulty_kind : List ℕ
faulty_kind =
    text_line (codes "create 1")
    ++ text_line (codes "ranks 1")
    ++ text_line (codes "dim x 2")
    ++ text_line (codes "var int v [x]")
    ++ text_line (codes "data")
    ++ text_line (codes "0 put_var_all v 1 x2")

abbrev pub faulty_post_twice : List ℕ
faulty_post_twice =
    text_line (codes "create 1")
    ++ text_line (codes "ranks 1")
    ++ text_line (codes "dim x 2")
    ++ text_line (codes "var int v [x]")
    ++ text_line (codes "data")
    ++ text_line (codes "0 iget_var 1 v")
    ++ text_line (codes "0 iget_var 1 v")

abbrev pub faulty_opened : List ℕ
faulty_opened =
    text_line (codes "open")
    ++ text_line (codes "ranks 1")
    ++ text_line (codes "fill")

abbrev pub faulty_fits : List ℕ
faulty_fits =
    text_line (codes "create 1")
    ++ text_line (codes "ranks 1")
    ++ text_line (codes "att : a byte 128")

abbrev pub faulty_new_type : List ℕ
faulty_new_type =
    text_line (codes "create 2")
    ++ text_line (codes "ranks 1")
    ++ text_line (codes "var ubyte b []")

abbrev pub faulty_extra_twice : List ℕ
faulty_extra_twice =
    text_line (codes "open")
    ++ text_line (codes "ranks 1")
    ++ text_line (codes "dim y 2")
    ++ text_line (codes "dim y 3")

abbrev pub faulty_extra_shape : List ℕ
faulty_extra_shape =
    text_line (codes "open")
    ++ text_line (codes "ranks 1")
    ++ text_line (codes "dim u unlimited")
    ++ text_line (codes "var int q [x,u]")

abbrev pub faulty_fill_twice : List ℕ
faulty_fill_twice =
    text_line (codes "create 1")
    ++ text_line (codes "fill")
    ++ text_line (codes "fill 1")

abbrev pub faulty_no_part : List ℕ
faulty_no_part =
    text_line (codes "create 1")
    ++ text_line (codes "ranks 1")
    ++ text_line (codes "dim x 4")
    ++ text_line (codes "var int v [x]")
    ++ text_line (codes "data")
    ++ text_line (codes "0 get_varn v 0")

abbrev pub faulty_many_parts : List ℕ
faulty_many_parts =
    text_line (codes "create 1")
    ++ text_line (codes "ranks 1")
    ++ text_line (codes "dim x 4")
    ++ text_line (codes "var int v [x]")
    ++ text_line (codes "data")
    ++ text_line (codes "0 get_varn v 1025")

abbrev pub faulty_part : List ℕ
faulty_part =
    text_line (codes "create 1")
    ++ text_line (codes "ranks 1")
    ++ text_line (codes "dim x 4")
    ++ text_line (codes "var int v [x]")
    ++ text_line (codes "data")
    ++ text_line (codes "0 get_varn v 2 [0] [1] [2]")

abbrev pub faulty_without_end : List ℕ
faulty_without_end =
    text_line (codes "create 1")
    ++ text_line (codes "ranks 2")
    ++ text_line (codes "dim x 4")
    ++ text_line (codes "var int v [x]")
    ++ text_line (codes "data")
    ++ text_line (codes "0 put_vara_all v [0] [2] 1 2")
    ++ text_line (codes "1 put_vara_all v [2] [2] 3 4")

abbrev pub faulty_after_end : List ℕ
faulty_after_end =
    text_line (codes "create 1")
    ++ text_line (codes "ranks 2")
    ++ text_line (codes "dim x 4")
    ++ text_line (codes "var int v [x]")
    ++ text_line (codes "data")
    ++ text_line (codes "0 put_vara_all v [0] [2] 1 2")
    ++ text_line (codes "1 put_vara_all v [2] [2] 3 4")
    ++ text_line (codes "end")
    ++ text_line (codes "x")

abbrev pub faulty_dimensions : List ℕ
faulty_dimensions =
    text_line (codes "create 1")
    ++ text_line (codes "ranks 1")
    ++ text_line (codes "dim x 1")
    ++ text_line (codes "var byte b [x,x,x,x,x,x,x,x,x,x,x,x,x,x,x,x,x,x,x,x,x,x,x,x,x,x,x,x,x,x,x,x,x]")
