-- The refusal of the type that the value is.
use Rattle.nc_classic_c.proofs.packing.pack_as.Goals as goal

pub returns-in-Byte-clause-refused : goal.returns-in-Byte-clause-refused
returns-in-Byte-clause-refused g c = rw c.in-Byte.is c.pack.ensures.refused

pub returns-in-Short-clause-refused : goal.returns-in-Short-clause-refused
returns-in-Short-clause-refused g c = rw c.in-Short.is c.pack-in-Short.ensures.refused

pub returns-in-Int-clause-refused : goal.returns-in-Int-clause-refused
returns-in-Int-clause-refused g c = rw c.in-Int.is c.pack-in-Int.ensures.refused

pub returns-in-UByte-clause-refused : goal.returns-in-UByte-clause-refused
returns-in-UByte-clause-refused g c = rw c.in-UByte.is c.pack-in-UByte.ensures.refused

pub returns-in-UShort-clause-refused : goal.returns-in-UShort-clause-refused
returns-in-UShort-clause-refused g c = rw c.in-UShort.is c.pack-in-UShort.ensures.refused

pub returns-in-UInt-clause-refused : goal.returns-in-UInt-clause-refused
returns-in-UInt-clause-refused g c = rw c.in-UInt.is c.pack-in-UInt.ensures.refused

pub returns-in-Int64-clause-refused : goal.returns-in-Int64-clause-refused
returns-in-Int64-clause-refused g c = rw c.in-Int64.is c.pack-in-Int64.ensures.refused

pub returns-in-UInt64-clause-refused : goal.returns-in-UInt64-clause-refused
returns-in-UInt64-clause-refused g c = rw c.in-UInt64.is c.pack-in-UInt64.ensures.refused
