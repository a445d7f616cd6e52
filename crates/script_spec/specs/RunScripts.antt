-- Scripts of worked runs, of blocking calls in both modes, and what is printed of them.
use Rattle.std.specs.Prelude.{ℕ, List, ◌++◌, codes}
use Rattle.script_spec.specs.Texts.{text_line}

abbrev pub script_overlap : List ℕ
script_overlap =
    text_line (codes "create 1")
    ++ text_line (codes "ranks 3")
    ++ text_line (codes "dim x 4")
    ++ text_line (codes "var int v [x]")
    ++ text_line (codes "data")
    ++ text_line (codes "0 put_vara_all v [0] [3] 1 2 3")
    ++ text_line (codes "1 put_vara_all v [2] [2] 8 9")
    ++ text_line (codes "2 put_vara_all v [0] [0]")
    ++ text_line (codes "end")

abbrev pub printed_overlap : List ℕ
printed_overlap =
    text_line (codes "rank 0")
    ++ text_line (codes "0 put_vara_all overlap 0 0 1 0 88")
    ++ text_line (codes "pending 0")
    ++ text_line (codes "rank 1")
    ++ text_line (codes "0 put_vara_all overlap 0 0 1 0 88")
    ++ text_line (codes "pending 0")
    ++ text_line (codes "rank 2")
    ++ text_line (codes "0 put_vara_all overlap 0 0 1 0 88")
    ++ text_line (codes "pending 0")

abbrev pub script_refusals : List ℕ
script_refusals =
    text_line (codes "create 1")
    ++ text_line (codes "ranks 2")
    ++ text_line (codes "dim x 4")
    ++ text_line (codes "var int v [x]")
    ++ text_line (codes "data")
    ++ text_line (codes "0 put_vara_all v [4] [0]")
    ++ text_line (codes "0 put_vara_all v [4] [1] 9")
    ++ text_line (codes "0 put_vara_all v [3] [2] 9 9")
    ++ text_line (codes "0 put_vars_all v [0] [1] [0] 9")
    ++ text_line (codes "1 put_vara_all v [0] [1] 5")
    ++ text_line (codes "1 put_vara_all v [0] [1] 5")
    ++ text_line (codes "1 put_vara_all v [0] [1] 5")
    ++ text_line (codes "1 put_vara_all v [0] [1] 5")
    ++ text_line (codes "end")

abbrev pub printed_refusals : List ℕ
printed_refusals =
    text_line (codes "rank 0")
    ++ text_line (codes "0 put_vara_all ok")
    ++ text_line (codes "1 put_vara_all NC_EINVALCOORDS")
    ++ text_line (codes "2 put_vara_all NC_EEDGE")
    ++ text_line (codes "3 put_vars_all NC_ESTRIDE")
    ++ text_line (codes "pending 0")
    ++ text_line (codes "rank 1")
    ++ text_line (codes "0 put_vara_all ok")
    ++ text_line (codes "1 put_vara_all ok")
    ++ text_line (codes "2 put_vara_all ok")
    ++ text_line (codes "3 put_vara_all ok")
    ++ text_line (codes "pending 0")

abbrev pub script_kinds : List ℕ
script_kinds =
    text_line (codes "create 1")
    ++ text_line (codes "ranks 1")
    ++ text_line (codes "dim x 2")
    ++ text_line (codes "var short s [x]")
    ++ text_line (codes "var float f [x]")
    ++ text_line (codes "data")
    ++ text_line (codes "0 put_var_all s 40000 1")
    ++ text_line (codes "0 put_var_all f 1 2")
    ++ text_line (codes "0 put_var_all s 1")
    ++ text_line (codes "0 put_var_all f x7FC00001 x0")
    ++ text_line (codes "0 get_var_all f")
    ++ text_line (codes "end")

abbrev pub printed_kinds : List ℕ
printed_kinds =
    text_line (codes "rank 0")
    ++ text_line (codes "0 put_var_all NC_ERANGE")
    ++ text_line (codes "1 put_var_all NC_EBADTYPE")
    ++ text_line (codes "2 put_var_all EMAPSIZE")
    ++ text_line (codes "3 put_var_all ok")
    ++ text_line (codes "4 get_var_all ok x7FC00001 x00000000")
    ++ text_line (codes "pending 0")

abbrev pub script_independent : List ℕ
script_independent =
    text_line (codes "create 1")
    ++ text_line (codes "ranks 2")
    ++ text_line (codes "dim x 4")
    ++ text_line (codes "var int v [x]")
    ++ text_line (codes "data")
    ++ text_line (codes "0 begin_indep_data")
    ++ text_line (codes "0 put_vars v [0] [2] [2] 1 3")
    ++ text_line (codes "0 end_indep_data")
    ++ text_line (codes "1 begin_indep_data")
    ++ text_line (codes "1 put_vars v [1] [2] [2] 2 4")
    ++ text_line (codes "1 end_indep_data")
    ++ text_line (codes "end")

abbrev pub script_known : List ℕ
script_known =
    text_line (codes "create 1")
    ++ text_line (codes "ranks 2")
    ++ text_line (codes "dim t unlimited")
    ++ text_line (codes "var short s [t]")
    ++ text_line (codes "data")
    ++ text_line (codes "0 begin_indep_data")
    ++ text_line (codes "0 put_var1 s [2] 5")
    ++ text_line (codes "0 inq_dimlen t")
    ++ text_line (codes "0 end_indep_data")
    ++ text_line (codes "0 inq_dimlen t")
    ++ text_line (codes "1 begin_indep_data")
    ++ text_line (codes "1 inq_dimlen t")
    ++ text_line (codes "1 get_var1 s [2]")
    ++ text_line (codes "1 end_indep_data")
    ++ text_line (codes "1 inq_dimlen t")
    ++ text_line (codes "end")

abbrev pub printed_known : List ℕ
printed_known =
    text_line (codes "rank 0")
    ++ text_line (codes "0 begin_indep_data ok")
    ++ text_line (codes "1 put_var1 ok")
    ++ text_line (codes "2 inq_dimlen ok 3")
    ++ text_line (codes "3 end_indep_data ok")
    ++ text_line (codes "4 inq_dimlen ok 3")
    ++ text_line (codes "pending 0")
    ++ text_line (codes "rank 1")
    ++ text_line (codes "0 begin_indep_data ok")
    ++ text_line (codes "1 inq_dimlen ok 0")
    ++ text_line (codes "2 get_var1 NC_EINVALCOORDS")
    ++ text_line (codes "3 end_indep_data ok")
    ++ text_line (codes "4 inq_dimlen ok 3")
    ++ text_line (codes "pending 0")

abbrev pub script_modes : List ℕ
script_modes =
    text_line (codes "create 1")
    ++ text_line (codes "ranks 1")
    ++ text_line (codes "dim x 4")
    ++ text_line (codes "var int v [x]")
    ++ text_line (codes "data")
    ++ text_line (codes "0 put_var1 v [0] 1")
    ++ text_line (codes "0 begin_indep_data")
    ++ text_line (codes "0 put_var1_all v [0] 1")
    ++ text_line (codes "0 begin_indep_data")
    ++ text_line (codes "0 end_indep_data")
    ++ text_line (codes "end")

abbrev pub printed_modes : List ℕ
printed_modes =
    text_line (codes "rank 0")
    ++ text_line (codes "0 put_var1 NC_ENOTINDEP")
    ++ text_line (codes "1 begin_indep_data ok")
    ++ text_line (codes "2 put_var1_all NC_EINDEP")
    ++ text_line (codes "3 begin_indep_data NC_EINDEP")
    ++ text_line (codes "4 end_indep_data ok")
    ++ text_line (codes "pending 0")

abbrev pub script_map : List ℕ
script_map =
    text_line (codes "create 1")
    ++ text_line (codes "ranks 1")
    ++ text_line (codes "dim y 2")
    ++ text_line (codes "dim x 3")
    ++ text_line (codes "var int w [y,x]")
    ++ text_line (codes "data")
    ++ text_line (codes "0 put_varm_all w [0,0] [2,3] [1,1] [1,2] 1 2 3 4 5 6")
    ++ text_line (codes "0 get_varm_all w [0,0] [2,3] [1,1] [1,2]")
    ++ text_line (codes "0 get_var_all w")
    ++ text_line (codes "end")

abbrev pub printed_map : List ℕ
printed_map =
    text_line (codes "rank 0")
    ++ text_line (codes "0 put_varm_all ok")
    ++ text_line (codes "1 get_varm_all ok 1 2 3 4 5 6")
    ++ text_line (codes "2 get_var_all ok 1 3 5 2 4 6")
    ++ text_line (codes "pending 0")

abbrev pub script_serial : List ℕ
script_serial =
    text_line (codes "create 1")
    ++ text_line (codes "ranks 3")
    ++ text_line (codes "hint overlap serial")
    ++ text_line (codes "dim x 4")
    ++ text_line (codes "var int v [x]")
    ++ text_line (codes "data")
    ++ text_line (codes "0 put_vara_all v [0] [3] 1 2 3")
    ++ text_line (codes "1 put_vara_all v [2] [2] 8 9")
    ++ text_line (codes "2 put_vara_all v [0] [0]")
    ++ text_line (codes "end")

abbrev pub script_none : List ℕ
script_none =
    text_line (codes "create 1")
    ++ text_line (codes "ranks 2")
    ++ text_line (codes "dim x 4")
    ++ text_line (codes "var int v [x]")
    ++ text_line (codes "data")
    ++ text_line (codes "0 put_vara_all v [0] [0]")
    ++ text_line (codes "1 put_vara_all v [0] [0]")
    ++ text_line (codes "end")

abbrev pub printed_none : List ℕ
printed_none =
    text_line (codes "rank 0")
    ++ text_line (codes "0 put_vara_all ok")
    ++ text_line (codes "pending 0")
    ++ text_line (codes "rank 1")
    ++ text_line (codes "0 put_vara_all ok")
    ++ text_line (codes "pending 0")

abbrev pub script_two_records : List ℕ
script_two_records =
    text_line (codes "create 1")
    ++ text_line (codes "ranks 1")
    ++ text_line (codes "dim t unlimited")
    ++ text_line (codes "var short s [t]")
    ++ text_line (codes "var int q [t]")
    ++ text_line (codes "data")
    ++ text_line (codes "0 put_var1_all s [1] 5")
    ++ text_line (codes "end")

abbrev pub script_chars : List ℕ
script_chars =
    text_line (codes "create 1")
    ++ text_line (codes "ranks 1")
    ++ text_line (codes "dim x 3")
    ++ text_line (codes "var char c [x]")
    ++ text_line (codes "var short s [x]")
    ++ text_line (codes "data")
    ++ text_line (codes "0 put_var_all c \"ab\\n\"")
    ++ text_line (codes "0 get_var_all c")
    ++ text_line (codes "0 put_var_all s \"ab\"")
    ++ text_line (codes "0 put_var_all c")
    ++ text_line (codes "0 get_vara_all c [1] [0]")
    ++ text_line (codes "end")

abbrev pub printed_chars : List ℕ
printed_chars =
    text_line (codes "rank 0")
    ++ text_line (codes "0 put_var_all ok")
    ++ text_line (codes "1 get_var_all ok \"ab\\n\"")
    ++ text_line (codes "2 put_var_all NC_ECHAR")
    ++ text_line (codes "3 put_var_all NC_ECHAR")
    ++ text_line (codes "4 get_vara_all ok")
    ++ text_line (codes "pending 0")

abbrev pub script_close : List ℕ
script_close =
    text_line (codes "create 1")
    ++ text_line (codes "ranks 1")
    ++ text_line (codes "dim t unlimited")
    ++ text_line (codes "var short s [t]")
    ++ text_line (codes "data")
    ++ text_line (codes "0 begin_indep_data")
    ++ text_line (codes "0 put_var1 s [2] 5")
    ++ text_line (codes "0 get_var1 s [2]")
    ++ text_line (codes "0 get_vars s [0] [2] [2]")
    ++ text_line (codes "end")

abbrev pub printed_close : List ℕ
printed_close =
    text_line (codes "rank 0")
    ++ text_line (codes "0 begin_indep_data ok")
    ++ text_line (codes "1 put_var1 ok")
    ++ text_line (codes "2 get_var1 ok 5")
    ++ text_line (codes "3 get_vars ok 0 5")
    ++ text_line (codes "pending 0")

abbrev pub script_gets : List ℕ
script_gets =
    text_line (codes "create 1")
    ++ text_line (codes "ranks 1")
    ++ text_line (codes "hint ind_rd_buffer_size 3")
    ++ text_line (codes "dim x 4")
    ++ text_line (codes "var int v [x]")
    ++ text_line (codes "data")
    ++ text_line (codes "0 get_vars_all v [0] [2] [3]")
    ++ text_line (codes "0 begin_indep_data")
    ++ text_line (codes "0 get_vars v [0] [2] [3]")
    ++ text_line (codes "end")

abbrev pub script_uint64 : List ℕ
script_uint64 =
    text_line (codes "create 5")
    ++ text_line (codes "ranks 1")
    ++ text_line (codes "dim x 4")
    ++ text_line (codes "var uint64 v [x]")
    ++ text_line (codes "data")
    ++ text_line (codes "0 put_var1_all v [0] 18446744073709551615")
    ++ text_line (codes "0 get_var1_all v [0]")
    ++ text_line (codes "end")

abbrev pub printed_uint64 : List ℕ
printed_uint64 =
    text_line (codes "rank 0")
    ++ text_line (codes "0 put_var1_all ok")
    ++ text_line (codes "1 get_var1_all ok 18446744073709551615")
    ++ text_line (codes "pending 0")

abbrev pub script_scalar : List ℕ
script_scalar =
    text_line (codes "create 1")
    ++ text_line (codes "ranks 1")
    ++ text_line (codes "var int a []")
    ++ text_line (codes "data")
    ++ text_line (codes "0 put_var_all a 5")
    ++ text_line (codes "0 get_var1_all a []")
    ++ text_line (codes "end")

abbrev pub printed_scalar : List ℕ
printed_scalar =
    text_line (codes "rank 0")
    ++ text_line (codes "0 put_var_all ok")
    ++ text_line (codes "1 get_var1_all ok 5")
    ++ text_line (codes "pending 0")
