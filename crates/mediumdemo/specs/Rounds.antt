-- A round of calls: an append, a sync, a sum, a retirement.
use Rattle.std.specs.Prelude.{ℕ, List}
use Rattle.medium.specs.Model.{MediumModel}
use Rattle.medium.specs.Steps.{append_answer, append_after, sync_answer, sync_after, retire_answer, retire_after}
use Rattle.mediumdemo.specs.Tally.{tally_answer}
use Rattle.mediumdemo.specs.declared.round.Round.{Round}

abbrev pub after_sync : MediumModel → ℕ → List ℕ → MediumModel
after_sync m f b = sync_after (append_after m f b) f

abbrev pub round_answer : MediumModel → ℕ → List ℕ → ℕ → Round
round_answer m f b n =
    record {
      appended = append_answer m f;
      synced = sync_answer (append_after m f b) f;
      sum = tally_answer (after_sync m f b) f;
      retired = retire_answer (after_sync m f b) f n;
    }

abbrev pub round_after : MediumModel → ℕ → List ℕ → ℕ → MediumModel
round_after m f b n = retire_after (after_sync m f b) f n
