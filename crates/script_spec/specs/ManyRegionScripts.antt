-- Scripts of worked runs whose calls are of many regions, and what is printed of them.
use Rattle.std.specs.Prelude.{ℕ, List, ◌++◌, codes}
use Rattle.script_spec.specs.Texts.{text_line}

abbrev pub script_varn : List ℕ
script_varn =
    text_line (codes "create 1")
    ++ text_line (codes "ranks 1")
    ++ text_line (codes "dim x 4")
    ++ text_line (codes "var int v [x]")
    ++ text_line (codes "data")
    ++ text_line (codes "0 put_varn_all v 2 [3] [1] [0] [2] 7 8 9")
    ++ text_line (codes "0 get_varn_all v 2 [3] [1] [0] [1]")
    ++ text_line (codes "end")

abbrev pub printed_varn : List ℕ
printed_varn =
    text_line (codes "rank 0")
    ++ text_line (codes "0 put_varn_all ok")
    ++ text_line (codes "1 get_varn_all ok 7 8")
    ++ text_line (codes "pending 0")

abbrev pub script_varn_self : List ℕ
script_varn_self =
    text_line (codes "create 1")
    ++ text_line (codes "ranks 1")
    ++ text_line (codes "dim x 4")
    ++ text_line (codes "var int v [x]")
    ++ text_line (codes "data")
    ++ text_line (codes "0 put_varn_all v 2 [0] [2] [1] [1] 1 2 3")
    ++ text_line (codes "end")

abbrev pub printed_varn_self : List ℕ
printed_varn_self =
    text_line (codes "rank 0")
    ++ text_line (codes "0 put_varn_all ESELF")
    ++ text_line (codes "pending 0")

abbrev pub script_varn_empty : List ℕ
script_varn_empty =
    text_line (codes "create 1")
    ++ text_line (codes "ranks 1")
    ++ text_line (codes "dim x 4")
    ++ text_line (codes "var int v [x]")
    ++ text_line (codes "data")
    ++ text_line (codes "0 put_varn_all v 2 [4] [0] [0] [1] 5")
    ++ text_line (codes "end")

abbrev pub printed_varn_empty : List ℕ
printed_varn_empty =
    text_line (codes "rank 0")
    ++ text_line (codes "0 put_varn_all ok")
    ++ text_line (codes "pending 0")

abbrev pub script_varn_refused : List ℕ
script_varn_refused =
    text_line (codes "create 1")
    ++ text_line (codes "ranks 1")
    ++ text_line (codes "dim x 4")
    ++ text_line (codes "var int v [x]")
    ++ text_line (codes "data")
    ++ text_line (codes "0 put_varn_all v 2 [0] [2] [4] [1] 1 2 3")
    ++ text_line (codes "0 put_varn_all v 2 [0] [2] [2] [2] 1 2 3")
    ++ text_line (codes "0 iget_varn 5 v 1 [0] [0]")
    ++ text_line (codes "end")

abbrev pub printed_varn_refused : List ℕ
printed_varn_refused =
    text_line (codes "rank 0")
    ++ text_line (codes "0 put_varn_all NC_EINVALCOORDS")
    ++ text_line (codes "1 put_varn_all EMAPSIZE")
    ++ text_line (codes "2 iget_varn null")
    ++ text_line (codes "pending 0")

-- the first and the third part share an element
abbrev pub script_varn_self_far : List ℕ
script_varn_self_far =
    text_line (codes "create 1")
    ++ text_line (codes "ranks 1")
    ++ text_line (codes "dim x 4")
    ++ text_line (codes "var int v [x]")
    ++ text_line (codes "data")
    ++ text_line (codes "0 put_varn_all v 3 [0] [1] [2] [1] [0] [1] 1 2 3")
    ++ text_line (codes "end")

abbrev pub printed_varn_self_far : List ℕ
printed_varn_self_far =
    text_line (codes "rank 0")
    ++ text_line (codes "0 put_varn_all ESELF")
    ++ text_line (codes "pending 0")
