use Rattle.imap_extents.proofs.packing.push_numbers_of.Goals as goal

pub returns-in-Byte-clause-refused : goal.returns-in-Byte-clause-refused
returns-in-Byte-clause-refused c = rw c.in-Byte.is c.push_numbers.ensures.refused

pub returns-in-Short-clause-refused : goal.returns-in-Short-clause-refused
returns-in-Short-clause-refused c = rw c.in-Short.is c.push_numbers-in-Short.ensures.refused

pub returns-in-Int-clause-refused : goal.returns-in-Int-clause-refused
returns-in-Int-clause-refused c = rw c.in-Int.is c.push_numbers-in-Int.ensures.refused

pub returns-in-UByte-clause-refused : goal.returns-in-UByte-clause-refused
returns-in-UByte-clause-refused c = rw c.in-UByte.is c.push_numbers-in-UByte.ensures.refused

pub returns-in-UShort-clause-refused : goal.returns-in-UShort-clause-refused
returns-in-UShort-clause-refused c = rw c.in-UShort.is c.push_numbers-in-UShort.ensures.refused

pub returns-in-UInt-clause-refused : goal.returns-in-UInt-clause-refused
returns-in-UInt-clause-refused c = rw c.in-UInt.is c.push_numbers-in-UInt.ensures.refused

pub returns-in-Int64-clause-refused : goal.returns-in-Int64-clause-refused
returns-in-Int64-clause-refused c = rw c.in-Int64.is c.push_numbers-in-Int64.ensures.refused

pub returns-in-UInt64-clause-refused : goal.returns-in-UInt64-clause-refused
returns-in-UInt64-clause-refused c = rw c.in-UInt64.is c.push_numbers-in-UInt64.ensures.refused
