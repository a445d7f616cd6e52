-- The sums of a plan, by those of its calls.
use Rattle.plan_sums.proofs.Words.{◌≡◌, ℕ, ◌-◌, List, Put, Get, calls_in, RunPlan, cells_in, asked_in, naive_sum, all_calls, AreSums, counted, Counted, Cell, Naive, arith, nat_tests}

pub summed : (plan : RunPlan) (unit ranks nodes : ℕ) (all moved : Counted) (got put : Naive) (over beside : ℕ) (cells : List Cell) → all ≡ counted unit (all_calls plan)
    → moved ≡ counted unit (calls_in plan.steps) → got ≡ naive_sum (asked_in Get plan.steps) → put ≡ naive_sum (asked_in Put plan.steps)
    → over ≡ moved.reads.bytes - got.bytes → beside ≡ moved.writes.bytes - put.bytes → cells ≡ cells_in plan.steps ranks nodes
    → AreSums plan unit ranks nodes (record {
      grows = all.grows;
      reads = all.reads;
      writes = all.writes;
      naive_reads = got;
      naive_writes = put;
      read_over = over;
      written_over = beside;
      matrix = cells;
    })
summed plan unit ranks nodes all moved got put over beside cells are moves gets puts more further through = grind (arith, nat_tests)
