-- A line of a journal answered: the next state, and the text of the answer.
use Rattle.std.specs.Prelude.{ℕ, ◌+◌, List, [], ◌++◌, Bool, cond, not, take, drop, replicate, eqb}
use Rattle.lists.specs.Lists.{all, place_of}
use Rattle.paper.specs.Answers.{sense_of, number_of}
use Rattle.paper.specs.Fresh.{started}
use Rattle.paper.specs.Outcomes.{Decision, decide_command, decide_link, decide_reach, outcome_of, buffer_after, routed}
use Rattle.paper.specs.declared.state.Coordinator.{Coordinator}
use Rattle.paper.specs.declared.answers.Answer.{Answer}
use Rattle.paper.specs.declared.answers.Answer.TheVariants.{Good, Check, Refused}
use Rattle.paper.specs.declared.answers.Opened.{Opened}
use Rattle.paper.specs.declared.answers.Opened.TheVariants.{Opens, Closed, Barred}
use Rattle.journal.specs.Statements.{Said, setup, command, link, route, reach, Line, skipped, said, too_long, expected, setup_word, command_word, link_word, route_word, reach_word}
use Rattle.journal.specs.Texts.{decimal_text, hex_text, bytes_text, good_text, good_count, check_text, refused_text, unit_text, kept_text, spoiled_text, line_text, word_text, colon_text, space_text, end_text, long_text, kind_text}

-- ---- "each byte of it A5h before the call"
abbrev pub lent : ℕ → List ℕ
lent n = replicate n 0xA5

abbrev pub is_lent : ℕ → Bool
is_lent b = eqb b 0xA5

-- " spoiled OFFSET", where a byte from a place on is not as it was lent
abbrev pub spoiled_from : ℕ → List ℕ → List ℕ
spoiled_from n buffer = spoiled_text ++ decimal_text (n + place_of (λ b. not (is_lent b)) (drop n buffer))

-- "`kept` says that every other byte of the lent buffer is still A5h."
unfoldable pub others_text : ℕ → List ℕ → List ℕ
others_text n buffer = cond (all is_lent (drop n buffer)) kept_text (spoiled_from n buffer)

-- "nothing may be written: if a byte of the lent buffer is not A5h, ` spoiled OFFSET` follows"
unfoldable pub untouched_text : List ℕ → List ℕ
untouched_text buffer = cond (all is_lent (drop 0 buffer)) [] (spoiled_from 0 buffer)

-- ---- the answers: the statement's word, and what follows it
abbrev pub checked_text : Answer → List ℕ
checked_text Good = []
checked_text (Check k) = check_text ++ hex_text (sense_of k)
checked_text (Refused n) = refused_text ++ decimal_text (number_of n)

-- of a call with a lent buffer: N, BYTES and what is kept
abbrev pub lent_text : Answer → ℕ → List ℕ → List ℕ
lent_text Good n buffer =
    good_count ++ (decimal_text n ++ (space_text ++ (bytes_text (take n buffer) ++ others_text n buffer)))
lent_text (Check k) n buffer = checked_text (Check k) ++ untouched_text buffer
lent_text (Refused r) n buffer = checked_text (Refused r) ++ untouched_text buffer

-- of a call without one
abbrev pub plain_text : Answer → List ℕ
plain_text Good = good_text
plain_text (Check k) = checked_text (Check k)
plain_text (Refused n) = checked_text (Refused n)

abbrev pub opened_text : Opened → List ℕ
opened_text (Opens u) = unit_text ++ decimal_text u
opened_text (Closed k) = checked_text (Check k)
opened_text (Barred n) = checked_text (Refused n)

-- ---- the next state and the answer line
pub record Step : Type 0 where
  pub state : Coordinator
  pub text : List ℕ

abbrev pub step_with : Coordinator → List ℕ → Step
step_with c text = record { state = c; text = text ++ end_text }

abbrev pub after_call : Coordinator → List ℕ → Decision → ℕ → Step
after_call c word d n =
    step_with (outcome_of c d).state (word ++ lent_text (outcome_of c d).answer (outcome_of c d).delivered (buffer_after d (lent n)))

unfoldable pub step_said : Coordinator → Said → Step
step_said c (setup ids luns) = step_with (started ids luns).state (setup_word ++ plain_text (started ids luns).answer)
step_said c (command i cdb list random n) = after_call c command_word (decide_command c i cdb list random n) n
step_said c (link i) =
    step_with (outcome_of c (decide_link c i)).state (link_word ++ plain_text (outcome_of c (decide_link c i)).answer)
step_said c (route i l) = step_with c (route_word ++ opened_text (routed c i l))
step_said c (reach n) = after_call c reach_word (decide_reach c n) n

-- "Such a line prints `line N: MESSAGE` in place of an answer .. and changes nothing."
unfoldable pub step_line : Coordinator → ℕ → Line → Step
step_line c number skipped = record { state = c; text = [] }
step_line c number (said s) = step_said c s
step_line c number too_long = step_with c (line_text ++ (decimal_text number ++ (colon_text ++ long_text)))
step_line c number (expected k kind) =
    step_with c (line_text ++ (decimal_text number ++ (word_text ++ (decimal_text k ++ (colon_text ++ kind_text kind)))))
