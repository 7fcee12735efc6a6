use Rattle.call_words.proofs.Wording.{one_request}
use Rattle.call_words.proofs.laws.requests_are_one.Goals as goal

pub returns : goal.returns
returns c = one_request
