use Rattle.run_laws.proofs.ArrivalLaws.{arrival_step, arrival_calls, serial_of_arrivals, calls_of_arrivals}
use Rattle.run_laws.proofs.arrival_law.Goals as goal

pub returns : goal.returns
returns c = record { step = arrival_step; calls = arrival_calls; serial = serial_of_arrivals; run_calls = calls_of_arrivals }
