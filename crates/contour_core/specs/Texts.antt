-- Lines that the program writes beside replies.
use Rattle.std.specs.Prelude.{ℕ, ◌++◌, List, codes, decimal}

-- the line that says that so many replies are right
abbrev pub right_text : ℕ → List ℕ
right_text n = codes "right " ++ decimal n ++ codes "\n"
