-- Request 2.12: "The reader accepts every such job and gives those tables back."
-- Assumes nothing.
use Rattle.std.specs.Prelude.{◌≡◌, ℕ, ◌≤◌, length}
use Rattle.text.specs.ReadReplies.{Tables, short_table, read_whole, read_reply}
use Rattle.text.specs.Sizes.{bytes_lent, RouterTables}
use Rattle.text.specs.Accepted.{AllowedText}
use Rattle.generator.specs.Load.{load_job, load_text}

pub record LoadTaken (seed nodes nets : ℕ) : Type 0 where
  -- the tables keep their rules, and the text is a printed form of them
  pub allowed : AllowedText (load_text seed nodes nets) (load_job seed nodes nets)
  -- "The reader accepts every such job and gives those tables back", where what it is lent is long enough
  pub given_back :
      (t : Tables) → short_table (load_job seed nodes nets) t ≡ 0
      → read_reply (load_text seed nodes nets) t ≡ read_whole (load_job seed nodes nets) t
  -- as the router's tables are, so that it never answers 4 to it
  pub enough : (t : Tables) → RouterTables t → short_table (load_job seed nodes nets) t ≡ 0
  -- nor 12: "65,536 bytes each for job, .."
  pub fits : length (load_text seed nodes nets) ≤ bytes_lent
