-- Scripts of worked runs, of the calls that a mode refuses and of those that both take, and what is printed of them.
use Rattle.std.specs.Prelude.{ℕ, List, ◌++◌, codes}
use Rattle.script_spec.specs.Texts.{text_line}

-- calls 0, 1, 3 and 14 in the wrong mode, then 9 and 11; a name and a size that no call takes; a wait for nothing
abbrev pub script_both_modes : List ℕ
script_both_modes =
    text_line (codes "create 1")
    ++ text_line (codes "ranks 1")
    ++ text_line (codes "dim x 4")
    ++ text_line (codes "var int v [x]")
    ++ text_line (codes "data")
    ++ text_line (codes "0 wait all")
    ++ text_line (codes "0 end_indep_data")
    ++ text_line (codes "0 sync_numrecs")
    ++ text_line (codes "0 wait")
    ++ text_line (codes "0 inq_dimlen y")
    ++ text_line (codes "0 buffer_attach 67108864")
    ++ text_line (codes "0 buffer_detach")
    ++ text_line (codes "0 buffer_attach 67108865")
    ++ text_line (codes "0 begin_indep_data")
    ++ text_line (codes "0 wait_all all")
    ++ text_line (codes "0 sync_numrecs")
    ++ text_line (codes "0 fill_var_rec v 0")
    ++ text_line (codes "0 wait")
    ++ text_line (codes "0 end_indep_data")
    ++ text_line (codes "0 wait")
    ++ text_line (codes "end")

abbrev pub printed_both_modes : List ℕ
printed_both_modes =
    text_line (codes "rank 0")
    ++ text_line (codes "0 wait NC_ENOTINDEP")
    ++ text_line (codes "1 end_indep_data NC_ENOTINDEP")
    ++ text_line (codes "2 sync_numrecs ok")
    ++ text_line (codes "3 wait NC_ENOTINDEP")
    ++ text_line (codes "4 inq_dimlen NC_EBADDIM")
    ++ text_line (codes "5 buffer_attach ok")
    ++ text_line (codes "6 buffer_detach ok")
    ++ text_line (codes "7 buffer_attach ETOOLARGE")
    ++ text_line (codes "8 begin_indep_data ok")
    ++ text_line (codes "9 wait_all NC_EINDEP")
    ++ text_line (codes "10 sync_numrecs ok")
    ++ text_line (codes "11 fill_var_rec NC_EINDEP")
    ++ text_line (codes "12 wait ok")
    ++ text_line (codes "13 end_indep_data ok")
    ++ text_line (codes "14 wait NC_ENOTINDEP")
    ++ text_line (codes "pending 0")

-- rank 0 makes a third record, which rank 1 hears of at the sync
abbrev pub script_sync : List ℕ
script_sync =
    text_line (codes "create 1")
    ++ text_line (codes "ranks 2")
    ++ text_line (codes "dim t unlimited")
    ++ text_line (codes "var short s [t]")
    ++ text_line (codes "data")
    ++ text_line (codes "0 begin_indep_data")
    ++ text_line (codes "0 put_var1 s [2] 5")
    ++ text_line (codes "0 sync_numrecs")
    ++ text_line (codes "0 inq_dimlen t")
    ++ text_line (codes "0 end_indep_data")
    ++ text_line (codes "1 begin_indep_data")
    ++ text_line (codes "1 sync_numrecs")
    ++ text_line (codes "1 inq_dimlen t")
    ++ text_line (codes "1 end_indep_data")
    ++ text_line (codes "end")

abbrev pub printed_sync : List ℕ
printed_sync =
    text_line (codes "rank 0")
    ++ text_line (codes "0 begin_indep_data ok")
    ++ text_line (codes "1 put_var1 ok")
    ++ text_line (codes "2 sync_numrecs ok")
    ++ text_line (codes "3 inq_dimlen ok 3")
    ++ text_line (codes "4 end_indep_data ok")
    ++ text_line (codes "pending 0")
    ++ text_line (codes "rank 1")
    ++ text_line (codes "0 begin_indep_data ok")
    ++ text_line (codes "1 sync_numrecs ok")
    ++ text_line (codes "2 inq_dimlen ok 3")
    ++ text_line (codes "3 end_indep_data ok")
    ++ text_line (codes "pending 0")

-- an independent wait lists a get before the put of the same element
abbrev pub script_put_first : List ℕ
script_put_first =
    text_line (codes "create 1")
    ++ text_line (codes "ranks 1")
    ++ text_line (codes "dim x 4")
    ++ text_line (codes "var int v [x]")
    ++ text_line (codes "data")
    ++ text_line (codes "0 begin_indep_data")
    ++ text_line (codes "0 iget_var1 1 v [0]")
    ++ text_line (codes "0 iput_var1 0 v [0] 9")
    ++ text_line (codes "0 wait 1 0")
    ++ text_line (codes "0 end_indep_data")
    ++ text_line (codes "end")

abbrev pub printed_put_first : List ℕ
printed_put_first =
    text_line (codes "rank 0")
    ++ text_line (codes "0 begin_indep_data ok")
    ++ text_line (codes "1 iget_var1 ok")
    ++ text_line (codes "2 iput_var1 ok")
    ++ text_line (codes "3 wait ok")
    ++ text_line (codes "  1 ok 9")
    ++ text_line (codes "  0 ok")
    ++ text_line (codes "4 end_indep_data ok")
    ++ text_line (codes "pending 0")

-- the elements 0, 2 and 3 in one independent put, by windows of six bytes
abbrev pub script_sieved : List ℕ
script_sieved =
    text_line (codes "create 1")
    ++ text_line (codes "ranks 1")
    ++ text_line (codes "hint ind_wr_buffer_size 6")
    ++ text_line (codes "dim x 4")
    ++ text_line (codes "var int v [x]")
    ++ text_line (codes "data")
    ++ text_line (codes "0 begin_indep_data")
    ++ text_line (codes "0 put_varn v 2 [0] [1] [2] [2] 1 2 3")
    ++ text_line (codes "0 end_indep_data")
    ++ text_line (codes "end")
