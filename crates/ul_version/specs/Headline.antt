-- The main theorem of versions: what the grammar of PEP 440, the reader, the normal text and the order have to do with
-- one another, for all texts and all versions.
use Rattle.ul_version.specs.Laws.{EarlierIsLongest, GreaterIsVersion, IsOrder, ReadIsSpelled, ReadIsVersion, SpelledIsRead, SpellingsAreOne, TextIsPlain, TextReads, TextTells, TiesAreZeros}

-- what is promised of versions
pub record VersionsAreExact : Type 0 where
  -- what a text is read as is what the grammar spells it as
  pub read_is_spelled : ReadIsSpelled
  -- what the grammar spells has a reading
  pub spelled_is_read : SpelledIsRead
  -- of all its spellings, a text is read by the one whose earlier parts are longest
  pub earlier_is_longest : EarlierIsLongest
  -- two spellings of one text with parts of equal lengths are one version
  pub lengths_are_enough : SpellingsAreOne
  -- what a text is read as is a version: a release that isn't empty, numbers of 64 bits, and words
  pub read_is_version : ReadIsVersion
  -- the normal text of a version reads as the version
  pub text_reads : TextReads
  -- versions with one normal text are the same
  pub text_tells : TextTells
  -- a normal text isn't empty, and has only digits, lower-case letters, points, `!` and `+`
  pub text_is_plain : TextIsPlain
  -- the order is total
  pub order_is_total : IsOrder
  -- versions tie exactly where they differ in nothing but zeros at the end of the release
  pub ties_are_zeros : TiesAreZeros
  -- above each version there is a greater one
  pub greater_is_version : GreaterIsVersion
