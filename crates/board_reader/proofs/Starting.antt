-- No lines: a draft that keeps all rules, and is none that has ended.
use Rattle.std.proofs.Common.{ℕ, [], refl, arith}
use Rattle.std.proofs.lemmas.List.Elements.{All-nil}
use Rattle.board_parts.specs.Rules.{AreNames, IsName}
use Rattle.board_reader.specs.Drafts.{no_draft}
use Rattle.board_reader.specs.Kept.{IsDraft}

no-names : (most : ℕ) → AreNames most []
no-names most = record { few = omega arith; each = All-nil IsName; apart = λ i j d lt inside. absurd (omega arith) }

pub empty-draft : IsDraft no_draft
empty-draft = record {
  layers = no-names 8;
  classes = no-names 4;
  kind_names = no-names 8;
  net_names = no-names 16384;
  tables = record { rules = All-nil _; clears = All-nil _; pads = All-nil _ };
  kinds = record { even = refl; each = All-nil _ };
  inners = All-nil _;
  nets = record { even = refl; each = All-nil _ };
  blocks = record { few = omega arith; each = All-nil _; each_keepout = All-nil _ };
  pins = record { few = omega arith; each = All-nil _ };
  empty = λ _. (refl, (refl, refl));
  heading = λ n. absurd (n refl);
  complete = λ e. absurd (cc);
}
