-- What a plan's JSON document tells of the sums. (own)
--     moved_object tally                  the reads or the writes
--     sums_object sums                    all sums
use Rattle.std.specs.Prelude.{ℕ, List, [], ◌∷◌, ◌++◌}
use Rattle.plan_sums.specs.declared.cells.Cell.{Cell}
use Rattle.plan_sums.specs.declared.naive.Naive.{Naive}
use Rattle.plan_sums.specs.declared.sums.Sums.{Sums}
use Rattle.plan_sums.specs.declared.tally.Tally.{Tally}
use Rattle.plan_text.specs.Json.{array_of, json_number, json_object, member}

abbrev pub moved_object : Tally → List ℕ
moved_object t =
    json_object (
    member "calls" (json_number t.calls)
    ∷ member "bytes" (json_number t.bytes)
    ∷ member "least" (json_number t.least)
    ∷ member "most" (json_number t.most)
    ∷ member "unaligned" (json_number t.unaligned)
    ∷ []
    )

abbrev pub naive_object : Naive → List ℕ
naive_object n = json_object (member "calls" (json_number n.calls) ∷ member "bytes" (json_number n.bytes) ∷ [])

-- the bytes of a rank that go through an aggregator
abbrev pub cell_object : Cell → List ℕ
cell_object c =
    json_object (
    member "rank" (json_number c.rank)
    ∷ member "aggregator" (json_number c.aggregator)
    ∷ member "put" (json_number c.put)
    ∷ member "got" (json_number c.got)
    ∷ []
    )

-- the reads and the writes of the plan, and those of naive I/O
abbrev pub moved_members : Sums → List (List ℕ)
moved_members s =
    member "reads" (moved_object s.reads)
    ∷ member "writes" (moved_object s.writes)
    ∷ member "naive_reads" (naive_object s.naive_reads)
    ∷ member "naive_writes" (naive_object s.naive_writes)
    ∷ []

-- what is moved beside what is asked for, and what goes through each aggregator
abbrev pub beside_members : Sums → List (List ℕ)
beside_members s =
    member "read_beside" (json_number s.read_over)
    ∷ member "written_beside" (json_number s.written_over)
    ∷ member "matrix" (array_of cell_object s.matrix)
    ∷ []

abbrev pub sums_object : Sums → List ℕ
sums_object s = json_object (member "grows" (json_number s.grows) ∷ moved_members s ++ beside_members s)
