-- The spaces are passed, and the word is cut off what is left.
use Rattle.std.proofs.Common.{◌≡◌, length, drop, take, ◌-◌, ap, ◌∙◌}
use Rattle.lists.proofs.Pages.{rest_is}
use Rattle.journal.specs.Words.{skip_spaces, word_at, after_word}
use Rattle.journal.proofs.words.next.Goals as goal

pub returns : goal.returns
returns c =
    let s = c.args.s.now in
    let n = c.spaces.result in
    let start : take (length s - n) (drop n s) ≡ skip_spaces s = rest_is s n ∙ c.spaces.ensures.1 in
    record {
      word = c.split_at.ensures.front ∙ (c.word_size.ensures.1 ∙ ap word_at start);
      rest = c.split_at.ensures.back ∙ (c.word_size.ensures.2 ∙ ap after_word start);
    }
