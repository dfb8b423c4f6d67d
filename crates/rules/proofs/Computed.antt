-- The figures, computed.
use Rattle.std.proofs.Common.{refl}
use Rattle.block.specs.Fletcher.{sums, fletcher16}
use Rattle.table.specs.Order.{before, same_key}
use Rattle.table.specs.Records.{look, put}
use Rattle.rules.specs.Figures.{Figures}
use Rattle.rules.specs.Logging.{persistent}
use Rattle.rules.specs.Transactions.{next_tid}

pub figures : Figures
unfolding fletcher16 sums next_tid persistent look put before same_key
figures = record {
  fletcher = refl;
  epoch_3 = refl;
  epoch_2 = refl;
  used_up = refl;
  two_and_one = refl;
  sixteen = refl;
  still_fits = refl;
  no_more = refl;
  held_back = refl;
  all_idle = refl;
  put_then_gone = refl;
  gone_then_put = refl;
}
