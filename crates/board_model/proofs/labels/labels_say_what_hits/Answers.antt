use Rattle.geo_rect.specs.declared.ids.Label.TheVariants.{Free, One, Many}
use Rattle.board_model.proofs.LabelLaws.{says_what}
use Rattle.board_model.proofs.labels.labels_say_what_hits.Goals as goal

pub returns-clause-free : goal.returns-clause-free
returns-clause-free c = λ b r shapes p. says_what b r p shapes Free

pub returns-clause-one : goal.returns-clause-one
returns-clause-one c = λ b r shapes p n. says_what b r p shapes (One n)

pub returns-clause-many : goal.returns-clause-many
returns-clause-many c = λ b r shapes p. says_what b r p shapes Many
