-- The number of each refusal, and what a refused call hands back with it.
use Rattle.std.specs.Prelude.{ℕ}
use Rattle.base.specs.declared.refusal.Refusal.{Refusal}
use Rattle.base.specs.declared.refusal.Refusal.TheVariants.{MasksUnfit, MediumNotFresh, NoSuchIndex, BadGroupText, ValueOutOfRange, BadMemory, WorkerBusy, WrongTicket, AdvanceHeldBack, LastEpoch, CheckpointUnderWay, NoCheckpointWalking, CheckpointUnfinished, BlocksLeft, KeyLocked, ReadChanged, ReadsInvalid, SequenceUsedUp, NothingToSpill, TooManyKeys, NotPersistent, TableFull, NoRoomInBlock, FileFull, NoSuchBlock, RetireOutOfRange, NoBlockLeft, MarkUnsound, BadHeader, BadSum, BadPadding, BadCommand, MisplacedCommand, FieldOutOfRange, BalanceTooLow, SlotTaken}

abbrev pub number_of : Refusal → ℕ
number_of MasksUnfit = 11
number_of MediumNotFresh = 12
number_of NoSuchIndex = 13
number_of BadGroupText = 14
number_of ValueOutOfRange = 15
number_of BadMemory = 16
number_of WorkerBusy = 20
number_of WrongTicket = 21
number_of AdvanceHeldBack = 23
number_of LastEpoch = 24
number_of CheckpointUnderWay = 25
number_of NoCheckpointWalking = 26
number_of CheckpointUnfinished = 27
number_of BlocksLeft = 28
number_of KeyLocked = 31
number_of ReadChanged = 32
number_of ReadsInvalid = 33
number_of SequenceUsedUp = 34
number_of NothingToSpill = 36
number_of TooManyKeys = 37
number_of NotPersistent = 39
number_of TableFull = 41
number_of NoRoomInBlock = 42
number_of FileFull = 43
number_of NoSuchBlock = 44
number_of RetireOutOfRange = 45
number_of NoBlockLeft = 46
number_of MarkUnsound = 61
number_of BadHeader = 62
number_of BadSum = 63
number_of BadPadding = 64
number_of BadCommand = 65
number_of MisplacedCommand = 66
number_of FieldOutOfRange = 67
number_of BalanceTooLow = 71
number_of SlotTaken = 72

-- plain: the refusal alone, with any ticket or held result that came in;
-- faulty: a fault that says where; replaying: a fault in a replay, plain elsewhere
pub data Returned : Type 0 where
  plain : Returned
  faulty : Returned
  replaying : Returned

abbrev pub returned : Refusal → Returned
returned MasksUnfit = plain
returned MediumNotFresh = plain
returned NoSuchIndex = plain
returned BadGroupText = plain
returned ValueOutOfRange = plain
returned BadMemory = plain
returned WorkerBusy = plain
returned WrongTicket = plain
returned AdvanceHeldBack = plain
returned LastEpoch = plain
returned CheckpointUnderWay = plain
returned NoCheckpointWalking = plain
returned CheckpointUnfinished = plain
returned BlocksLeft = plain
returned KeyLocked = plain
returned ReadChanged = plain
returned ReadsInvalid = plain
returned SequenceUsedUp = plain
returned NothingToSpill = plain
returned TooManyKeys = plain
returned NotPersistent = plain
returned TableFull = replaying
returned NoRoomInBlock = plain
returned FileFull = plain
returned NoSuchBlock = replaying
returned RetireOutOfRange = plain
returned NoBlockLeft = faulty
returned MarkUnsound = faulty
returned BadHeader = faulty
returned BadSum = faulty
returned BadPadding = faulty
returned BadCommand = faulty
returned MisplacedCommand = faulty
returned FieldOutOfRange = faulty
returned BalanceTooLow = plain
returned SlotTaken = plain
