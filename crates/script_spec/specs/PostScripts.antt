-- Scripts of worked runs in which requests are posted, waited for and cancelled, and what is printed of them.
use Rattle.std.specs.Prelude.{ℕ, List, ◌++◌, codes}
use Rattle.script_spec.specs.Texts.{text_line}

abbrev pub script_buffer : List ℕ
script_buffer =
    text_line (codes "create 1")
    ++ text_line (codes "ranks 1")
    ++ text_line (codes "dim x 4")
    ++ text_line (codes "var int v [x]")
    ++ text_line (codes "data")
    ++ text_line (codes "0 bput_var1 9 v [0] 1")
    ++ text_line (codes "0 buffer_attach 0")
    ++ text_line (codes "0 buffer_attach 8")
    ++ text_line (codes "0 buffer_attach 8")
    ++ text_line (codes "0 bput_vara 0 v [0] [2] 1 2")
    ++ text_line (codes "0 bput_var1 1 v [2] 3")
    ++ text_line (codes "0 buffer_detach")
    ++ text_line (codes "0 wait_all all")
    ++ text_line (codes "0 bput_var1 2 v [2] 3")
    ++ text_line (codes "0 cancel all")
    ++ text_line (codes "0 buffer_detach")
    ++ text_line (codes "0 buffer_detach")
    ++ text_line (codes "end")

abbrev pub printed_buffer : List ℕ
printed_buffer =
    text_line (codes "rank 0")
    ++ text_line (codes "0 bput_var1 NC_ENULLABUF")
    ++ text_line (codes "1 buffer_attach NC_ENULLBUF")
    ++ text_line (codes "2 buffer_attach ok")
    ++ text_line (codes "3 buffer_attach NC_EPREVATTACHBUF")
    ++ text_line (codes "4 bput_vara ok")
    ++ text_line (codes "5 bput_var1 NC_EINSUFFBUF")
    ++ text_line (codes "6 buffer_detach NC_EPENDINGBPUT")
    ++ text_line (codes "7 wait_all ok")
    ++ text_line (codes "  0 ok")
    ++ text_line (codes "8 bput_var1 ok")
    ++ text_line (codes "9 cancel ok")
    ++ text_line (codes "  2 ok")
    ++ text_line (codes "10 buffer_detach ok")
    ++ text_line (codes "11 buffer_detach NC_ENULLABUF")
    ++ text_line (codes "pending 0")

abbrev pub script_items : List ℕ
script_items =
    text_line (codes "create 1")
    ++ text_line (codes "ranks 1")
    ++ text_line (codes "dim x 4")
    ++ text_line (codes "var int v [x]")
    ++ text_line (codes "data")
    ++ text_line (codes "0 iput_var1 0 v [0] 9")
    ++ text_line (codes "0 iget_var1 1 v [0]")
    ++ text_line (codes "0 iput_vara 2 v [0] [0]")
    ++ text_line (codes "0 wait_all 1 0 2 0 5")
    ++ text_line (codes "end")

abbrev pub printed_items : List ℕ
printed_items =
    text_line (codes "rank 0")
    ++ text_line (codes "0 iput_var1 ok")
    ++ text_line (codes "1 iget_var1 ok")
    ++ text_line (codes "2 iput_vara null")
    ++ text_line (codes "3 wait_all ok")
    ++ text_line (codes "  1 ok 9")
    ++ text_line (codes "  0 ok")
    ++ text_line (codes "  2 null")
    ++ text_line (codes "  0 NC_EINVAL_REQUEST")
    ++ text_line (codes "  5 NC_EINVAL_REQUEST")
    ++ text_line (codes "pending 0")

abbrev pub script_three : List ℕ
script_three =
    text_line (codes "create 1")
    ++ text_line (codes "ranks 2")
    ++ text_line (codes "dim x 4")
    ++ text_line (codes "var int v [x]")
    ++ text_line (codes "data")
    ++ text_line (codes "0 iput_vara 5 v [0] [2] 1 2")
    ++ text_line (codes "0 iput_vara 3 v [1] [2] 3 4")
    ++ text_line (codes "0 wait_all all")
    ++ text_line (codes "1 iput_vara 0 v [1] [3] 7 8 9")
    ++ text_line (codes "1 wait_all all")
    ++ text_line (codes "end")

abbrev pub printed_three : List ℕ
printed_three =
    text_line (codes "rank 0")
    ++ text_line (codes "0 iput_vara ok")
    ++ text_line (codes "1 iput_vara ok")
    ++ text_line (codes "2 wait_all overlap 0 3 0 5 84")
    ++ text_line (codes "  5 ok")
    ++ text_line (codes "  3 ok")
    ++ text_line (codes "pending 0")
    ++ text_line (codes "rank 1")
    ++ text_line (codes "0 iput_vara ok")
    ++ text_line (codes "1 wait_all overlap 0 3 0 5 84")
    ++ text_line (codes "  0 ok")
    ++ text_line (codes "pending 0")

abbrev pub script_ten : List ℕ
script_ten =
    text_line (codes "create 1")
    ++ text_line (codes "ranks 1")
    ++ text_line (codes "dim x 10")
    ++ text_line (codes "var int v [x]")
    ++ text_line (codes "data")
    ++ text_line (codes "0 iput_var1 0 v [0] 0")
    ++ text_line (codes "0 iput_var1 1 v [1] 1")
    ++ text_line (codes "0 iput_var1 2 v [2] 2")
    ++ text_line (codes "0 iput_var1 3 v [3] 3")
    ++ text_line (codes "0 iput_var1 4 v [4] 4")
    ++ text_line (codes "0 iput_var1 5 v [5] 5")
    ++ text_line (codes "0 iput_var1 6 v [6] 6")
    ++ text_line (codes "0 iput_var1 7 v [7] 7")
    ++ text_line (codes "0 iput_var1 8 v [8] 8")
    ++ text_line (codes "0 iput_var1 9 v [9] 9")
    ++ text_line (codes "0 wait_all all")
    ++ text_line (codes "0 wait_all 3")
    ++ text_line (codes "end")

abbrev pub printed_ten : List ℕ
printed_ten =
    text_line (codes "rank 0")
    ++ text_line (codes "0 iput_var1 ok")
    ++ text_line (codes "1 iput_var1 ok")
    ++ text_line (codes "2 iput_var1 ok")
    ++ text_line (codes "3 iput_var1 ok")
    ++ text_line (codes "4 iput_var1 ok")
    ++ text_line (codes "5 iput_var1 ok")
    ++ text_line (codes "6 iput_var1 ok")
    ++ text_line (codes "7 iput_var1 ok")
    ++ text_line (codes "8 iput_var1 ok")
    ++ text_line (codes "9 iput_var1 ok")
    ++ text_line (codes "10 wait_all ok")
    ++ text_line (codes "  0 ok")
    ++ text_line (codes "  1 ok")
    ++ text_line (codes "  2 ok")
    ++ text_line (codes "  3 ok")
    ++ text_line (codes "  4 ok")
    ++ text_line (codes "  5 ok")
    ++ text_line (codes "  6 ok")
    ++ text_line (codes "  7 ok")
    ++ text_line (codes "  8 ok")
    ++ text_line (codes "  9 ok")
    ++ text_line (codes "11 wait_all ok")
    ++ text_line (codes "  3 NC_EINVAL_REQUEST")
    ++ text_line (codes "pending 0")

abbrev pub script_cancelled : List ℕ
script_cancelled =
    text_line (codes "create 1")
    ++ text_line (codes "ranks 1")
    ++ text_line (codes "dim t unlimited")
    ++ text_line (codes "var short s [t]")
    ++ text_line (codes "data")
    ++ text_line (codes "0 iput_var1 0 s [5] 9")
    ++ text_line (codes "0 cancel 0")
    ++ text_line (codes "0 iput_var1 1 s [0] 4")
    ++ text_line (codes "0 wait_all all")
    ++ text_line (codes "end")

abbrev pub printed_cancelled : List ℕ
printed_cancelled =
    text_line (codes "rank 0")
    ++ text_line (codes "0 iput_var1 ok")
    ++ text_line (codes "1 cancel ok")
    ++ text_line (codes "  0 ok")
    ++ text_line (codes "2 iput_var1 ok")
    ++ text_line (codes "3 wait_all ok")
    ++ text_line (codes "  1 ok")
    ++ text_line (codes "pending 0")

abbrev pub script_left : List ℕ
script_left =
    text_line (codes "create 1")
    ++ text_line (codes "ranks 1")
    ++ text_line (codes "dim x 4")
    ++ text_line (codes "var int v [x]")
    ++ text_line (codes "data")
    ++ text_line (codes "0 iput_var1 0 v [0] 9")
    ++ text_line (codes "end")

abbrev pub printed_left : List ℕ
printed_left =
    text_line (codes "rank 0")
    ++ text_line (codes "0 iput_var1 ok")
    ++ text_line (codes "pending 1")

abbrev pub script_varn_post : List ℕ
script_varn_post =
    text_line (codes "create 1")
    ++ text_line (codes "ranks 1")
    ++ text_line (codes "dim x 4")
    ++ text_line (codes "var int v [x]")
    ++ text_line (codes "data")
    ++ text_line (codes "0 iput_varn 0 v 2 [3] [1] [0] [1] 7 8")
    ++ text_line (codes "0 wait_all all")
    ++ text_line (codes "end")

abbrev pub printed_varn_post : List ℕ
printed_varn_post =
    text_line (codes "rank 0")
    ++ text_line (codes "0 iput_varn ok")
    ++ text_line (codes "1 wait_all ok")
    ++ text_line (codes "  0 ok")
    ++ text_line (codes "pending 0")

abbrev pub script_serial_posts : List ℕ
script_serial_posts =
    text_line (codes "create 1")
    ++ text_line (codes "ranks 1")
    ++ text_line (codes "hint overlap serial")
    ++ text_line (codes "dim x 4")
    ++ text_line (codes "var int v [x]")
    ++ text_line (codes "data")
    ++ text_line (codes "0 iput_vara 0 v [0] [2] 1 2")
    ++ text_line (codes "0 iput_vara 1 v [1] [2] 3 4")
    ++ text_line (codes "0 wait_all 1 0")
    ++ text_line (codes "end")

abbrev pub printed_serial_posts : List ℕ
printed_serial_posts =
    text_line (codes "rank 0")
    ++ text_line (codes "0 iput_vara ok")
    ++ text_line (codes "1 iput_vara ok")
    ++ text_line (codes "2 wait_all ok")
    ++ text_line (codes "  1 ok")
    ++ text_line (codes "  0 ok")
    ++ text_line (codes "pending 0")

-- an iput beside bputs takes no room of the attached buffer
abbrev pub script_buffer_of_bputs : List ℕ
script_buffer_of_bputs =
    text_line (codes "create 1")
    ++ text_line (codes "ranks 1")
    ++ text_line (codes "dim x 4")
    ++ text_line (codes "var int v [x]")
    ++ text_line (codes "data")
    ++ text_line (codes "0 buffer_attach 4")
    ++ text_line (codes "0 iput_vara 0 v [0] [2] 1 2")
    ++ text_line (codes "0 bput_var1 1 v [2] 3")
    ++ text_line (codes "0 bput_var1 2 v [3] 3")
    ++ text_line (codes "end")

abbrev pub printed_buffer_of_bputs : List ℕ
printed_buffer_of_bputs =
    text_line (codes "rank 0")
    ++ text_line (codes "0 buffer_attach ok")
    ++ text_line (codes "1 iput_vara ok")
    ++ text_line (codes "2 bput_var1 ok")
    ++ text_line (codes "3 bput_var1 NC_EINSUFFBUF")
    ++ text_line (codes "pending 2")

-- a get beside two puts that overlap
abbrev pub script_get_beside_pair : List ℕ
script_get_beside_pair =
    text_line (codes "create 1")
    ++ text_line (codes "ranks 1")
    ++ text_line (codes "dim x 4")
    ++ text_line (codes "var int v [x]")
    ++ text_line (codes "data")
    ++ text_line (codes "0 iput_vara 0 v [0] [2] 1 2")
    ++ text_line (codes "0 iput_vara 1 v [1] [2] 3 4")
    ++ text_line (codes "0 iget_vara 2 v [2] [2]")
    ++ text_line (codes "0 wait_all all")
    ++ text_line (codes "end")

abbrev pub printed_get_beside_pair : List ℕ
printed_get_beside_pair =
    text_line (codes "rank 0")
    ++ text_line (codes "0 iput_vara ok")
    ++ text_line (codes "1 iput_vara ok")
    ++ text_line (codes "2 iget_vara ok")
    ++ text_line (codes "3 wait_all overlap 0 0 0 1 84")
    ++ text_line (codes "  0 ok")
    ++ text_line (codes "  1 ok")
    ++ text_line (codes "  2 ok 0 0")
    ++ text_line (codes "pending 0")
