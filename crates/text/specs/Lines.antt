-- Document 01: "one line for each whole record: "pass", "drop", "spent", or "refused" with a space and the number", as ASCII
-- codes with a line feed. Assumes nothing.
use Rattle.std.specs.Prelude.{cond, List, [], ◌∷◌, ◌++◌, ℕ, ◌+◌, ◌/◌, ◌%◌, ltb}
use Rattle.model.specs.Run.{Answer, Reply}
use Rattle.model.specs.Run.Answer.{Refused, Loaded, WentOn, Broke, Spent, Paused, Ignored, Admitted}
use Rattle.model.specs.Calls.{passed}

abbrev pub pass_line : List ℕ
pass_line = 112 ∷ 97 ∷ 115 ∷ 115 ∷ 10 ∷ []

abbrev pub drop_line : List ℕ
drop_line = 100 ∷ 114 ∷ 111 ∷ 112 ∷ 10 ∷ []

abbrev pub spent_line : List ℕ
spent_line = 115 ∷ 112 ∷ 101 ∷ 110 ∷ 116 ∷ 10 ∷ []

abbrev pub refused_word : List ℕ
refused_word = 114 ∷ 101 ∷ 102 ∷ 117 ∷ 115 ∷ 101 ∷ 100 ∷ 32 ∷ []

abbrev pub line_feed : List ℕ
line_feed = 10 ∷ []

-- a number of 8 bits in decimal digits, 48 being the code of 0, with no 0 in front
unfoldable pub decimal : ℕ → List ℕ
decimal n =
    cond (ltb n 10) ((48 + n) ∷ [])
    (cond (ltb n 100) ((48 + n / 10) ∷ (48 + n % 10) ∷ [])
    ((48 + n / 100) ∷ (48 + n / 10 % 10) ∷ (48 + n % 10) ∷ []))

unfoldable pub refused_line : ℕ → List ℕ
refused_line n = refused_word ++ (decimal n ++ line_feed)

-- the line of an answer and its verdict: "0 drops the frame, any other number passes it"; a load that is not refused has
-- none, and no frame call gives one of the other answers
unfoldable pub line_of : Answer → ℕ → List ℕ
line_of Broke verdict = cond (passed verdict) pass_line drop_line
line_of Spent verdict = spent_line
line_of (Refused n) verdict = refused_line n
line_of Loaded verdict = []
line_of WentOn verdict = []
line_of Paused verdict = []
line_of Ignored verdict = []
line_of Admitted verdict = []

abbrev pub line : Reply → List ℕ
line r = line_of r.answer r.verdict

-- the most bytes of a line: "refused 255" and the line feed
abbrev pub line_most : ℕ
line_most = 12
