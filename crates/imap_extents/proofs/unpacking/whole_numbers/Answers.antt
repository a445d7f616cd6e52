use Rattle.imap_extents.proofs.Cited.{refl, arith, nat_tests, Byte, Short, Int, UByte, UShort, UInt, Int64, UInt64}
use Rattle.imap_extents.proofs.OrderLaws.{known_numbers}
use Rattle.imap_extents.proofs.unpacking.whole_numbers.Goals as goal

pub returns-in-Byte : goal.returns-in-Byte
returns-in-Byte c = known_numbers c.args.kind Byte c.args.bytes.now c.narrow_numbers.result c.in-Byte.is (λ l. refl) c.narrow_numbers.ensures

pub returns-in-UByte : goal.returns-in-UByte
returns-in-UByte c = known_numbers c.args.kind UByte c.args.bytes.now c.narrow_numbers-in-UByte.result c.in-UByte.is (λ l. refl) c.narrow_numbers-in-UByte.ensures

pub returns-in-Short : goal.returns-in-Short
returns-in-Short c = known_numbers c.args.kind Short c.args.bytes.now c.narrow_numbers-in-Short.result c.in-Short.is (λ l. refl) c.narrow_numbers-in-Short.ensures

pub returns-in-UShort : goal.returns-in-UShort
returns-in-UShort c = known_numbers c.args.kind UShort c.args.bytes.now c.narrow_numbers-in-UShort.result c.in-UShort.is (λ l. refl) c.narrow_numbers-in-UShort.ensures

pub returns-in-Int : goal.returns-in-Int
returns-in-Int c = known_numbers c.args.kind Int c.args.bytes.now c.narrow_numbers-in-Int.result c.in-Int.is (λ l. refl) c.narrow_numbers-in-Int.ensures

pub returns-in-UInt : goal.returns-in-UInt
returns-in-UInt c = known_numbers c.args.kind UInt c.args.bytes.now c.wide_numbers.result c.in-UInt.is (λ l. refl) c.wide_numbers.ensures

pub returns-in-Int64 : goal.returns-in-Int64
returns-in-Int64 c = known_numbers c.args.kind Int64 c.args.bytes.now c.wide_numbers-in-Int64.result c.in-Int64.is (λ l. refl) c.wide_numbers-in-Int64.ensures

pub returns-in_default : goal.returns-in_default
returns-in_default c = grind (arith, nat_tests, known_numbers c.args.kind UInt64 c.args.bytes.now c.decode_numbers.result, c.decode_numbers.ensures)
