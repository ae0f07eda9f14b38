use Rattle.std.proofs.Common.{sym, arith}
use Rattle.leb128.proofs.Leb128Laws.{uleb_small, length_is}
use Rattle.leb128.proofs.writer.number_len.Goals as goal

pub returns-in-0-to-127-clause-count : goal.returns-in-0-to-127-clause-count
returns-in-0-to-127-clause-count c = grind (arith, uleb_small)

pub returns-in-128-to-16383-clause-count : goal.returns-in-128-to-16383-clause-count
returns-in-128-to-16383-clause-count c = sym (length_is 1 c.args.value (omega arith) (omega arith))

pub returns-in-16384-to-2097151-clause-count : goal.returns-in-16384-to-2097151-clause-count
returns-in-16384-to-2097151-clause-count c = sym (length_is 2 c.args.value (omega arith) (omega arith))

pub returns-in-2097152-to-268435455-clause-count : goal.returns-in-2097152-to-268435455-clause-count
returns-in-2097152-to-268435455-clause-count c = sym (length_is 3 c.args.value (omega arith) (omega arith))

pub returns-in-268435456-to-34359738367-clause-count : goal.returns-in-268435456-to-34359738367-clause-count
returns-in-268435456-to-34359738367-clause-count c = sym (length_is 4 c.args.value (omega arith) (omega arith))

pub returns-in-34359738368-to-4398046511103-clause-count : goal.returns-in-34359738368-to-4398046511103-clause-count
returns-in-34359738368-to-4398046511103-clause-count c = sym (length_is 5 c.args.value (omega arith) (omega arith))

pub returns-in-4398046511104-to-562949953421311-clause-count : goal.returns-in-4398046511104-to-562949953421311-clause-count
returns-in-4398046511104-to-562949953421311-clause-count c = sym (length_is 6 c.args.value (omega arith) (omega arith))

pub returns-in-562949953421312-to-72057594037927935-clause-count : goal.returns-in-562949953421312-to-72057594037927935-clause-count
returns-in-562949953421312-to-72057594037927935-clause-count c = sym (length_is 7 c.args.value (omega arith) (omega arith))

pub returns-in-72057594037927936-to-9223372036854775807-clause-count : goal.returns-in-72057594037927936-to-9223372036854775807-clause-count
returns-in-72057594037927936-to-9223372036854775807-clause-count c = sym (length_is 8 c.args.value (omega arith) (omega arith))

pub returns-in-9223372036854775808-to-18446744073709551615-clause-count : goal.returns-in-9223372036854775808-to-18446744073709551615-clause-count
returns-in-9223372036854775808-to-18446744073709551615-clause-count c = sym (length_is 9 c.args.value (omega arith) (omega arith))
