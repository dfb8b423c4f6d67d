-- A command that was read, by its values and its place.
use Rattle.std.specs.Prelude.{◌≡◌, ℕ, ◌+◌, ◌≤◌, List, length, drop, Some, None, Ok, Err, Option, Result, IfSome}
use Rattle.std.specs.Iterator.{YieldsFirstBy}
use Rattle.std.specs.Option.{option_map}
use Rattle.std.proofs.Common.{to_z}
use Rattle.std.specs.Int.{w64}
use Rattle.base.specs.Bytes.{be_at}
use Rattle.base.specs.Faults.{BlockFault}
use Rattle.block.specs.declared.command.Command.{Command}
use Rattle.block.specs.declared.command.Command.TheVariants as read
use Rattle.block.specs.declared.command.Commands.{Commands}
use Rattle.block.specs.declared.entry.Entry.{Entry}
use Rattle.block.specs.declared.entry.Entry.TheVariants.{Txn, Put, Del, Row, Gone}
use Rattle.block.specs.Format.{size_of}
use Rattle.block.specs.Parsing.{entries}

abbrev pub value_of : Command → Entry
value_of (read.Txn at tid) = Txn (be_at 8 0 tid.now)
value_of (read.Put at kind code value) = Put (record { kind = kind; code = be_at 16 0 code.now }) (to_z w64 (be_at 8 0 value.now))
value_of (read.Del at kind code) = Del (record { kind = kind; code = be_at 16 0 code.now })
value_of (read.Row at tid kind code value) = Row (be_at 8 0 tid.now) (record { kind = kind; code = be_at 16 0 code.now }) (to_z w64 (be_at 8 0 value.now))
value_of (read.Gone at tid kind code) = Gone (be_at 8 0 tid.now) (record { kind = kind; code = be_at 16 0 code.now })

-- the byte of the block that it begins at
abbrev pub place_of : Command → ℕ
place_of (read.Txn at tid) = at
place_of (read.Put at kind code value) = at
place_of (read.Del at kind code) = at
place_of (read.Row at tid kind code value) = at
place_of (read.Gone at tid kind code) = at

abbrev pub taken : Option Entry → ℕ
taken None = 0
taken (Some e) = size_of e

-- the byte of the block that the next command begins at
abbrev pub place : Commands → ℕ
place c = c.at

-- the commands that are still to come
abbrev pub pending : Commands → List Entry
pending c = entries c.rest.now

-- a call gives the first command to come, with its place, and leaves the others; where none is to come it gives none, and leaves none
pub record GivesNext (old : Commands) (result : Option Command) (new : Commands) : Type 0 where
  pub answer : YieldsFirstBy value_of pending old result new
  pub at : IfSome result (λ c. place_of c ≡ place old)
  pub on : place new ≡ place old + taken (option_map value_of result)
  pub rest : new.rest.now ≡ drop (taken (option_map value_of result)) old.rest.now
  pub enough : taken (option_map value_of result) ≤ length old.rest.now

-- what a reader answered, by the commands to come
abbrev pub answered : Result Commands BlockFault → Result (List Entry) BlockFault
answered (Ok c) = Ok (pending c)
answered (Err f) = Err f
