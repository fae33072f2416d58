-- The line that reports a feed's end, or, with the name `serve`, that of a router that is served.
use Rattle.std.specs.Prelude.{ℕ, List, [], ◌∷◌, ◌++◌, codes, decimal}
use Rattle.report_text.specs.declared.feed.FeedEnd.{FeedEnd}
use Rattle.report_text.specs.declared.feed.FeedEnd.TheVariants.{Unreachable, Lost, Short}

abbrev pub end_word : FeedEnd → List ℕ
end_word Unreachable = codes "unreachable"
end_word Lost = codes "lost"
end_word Short = codes "short"

-- the number of the script's line, the feed's name and the word, without the line feed; lines are numbered from 1
abbrev pub feed_line : ℕ → List ℕ → FeedEnd → List ℕ
feed_line line name end = codes "! line " ++ decimal line ++ codes " " ++ name ++ codes " " ++ end_word end

-- and with it
abbrev pub feed_text : ℕ → List ℕ → FeedEnd → List ℕ
feed_text line name end = feed_line line name end ++ 10 ∷ []
