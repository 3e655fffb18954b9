-- Document 01's listing as a conversation: it keeps one file count, so it is a run. And short ones, computed: the text that one shows was
-- typed; a commit that is asked again while a cut waits; what a bare `open` protects from, and what not.
use Rattle.std.proofs.Common.{Some}
use Prim.Native.Nat.{ℕ, ◌*◌, ◌<◌}
use mathlib.Core.Path.{◌≡◌, refl}
use mathlib.Core.List.{List, [], ◌∷◌, ◌++◌}
use mathlib.Core.Logic.{◌⊎◌}
use lib.ListN.{replicate}
use Rattle.commands.specs.Names.{open_name, begin_name, write_name, read_name, test_name, commit_name, abort_name, cut_name}
use Rattle.commands.specs.Commands.{words, number_of, three, is_text, alone, with_one, with_two, with_three, with_text, command_of, parsed}
use Rattle.promises.specs.Runs.{Run}
use Rattle.program.specs.Program.{Memory, memory_of, run_of, AllLines, AllKeep, turned, memory_after}
use Rattle.calls.specs.declared.asking.Call as code
use Rattle.commands.specs.declared.parsing.Command as command
use Rattle.commands.specs.declared.printing.Reply as reply
use Rattle.commands.specs.declared.printing.Reply.{Reply}
use Rattle.commands.specs.Replies.{decimal, spaced}
use Rattle.page.specs.Layout.{most_files}
use Rattle.page.specs.Table.{head, front, packed, fields_of, lowest, highest, within, between, meets_rules, is_page_of, torn}
use Rattle.page.specs.Answers.{in_bounds, tested}
use Rattle.recovery.specs.Places.{tabulate}
use Rattle.recovery.specs.Log.{Entry, image, fate_of, outcome_of, images_of, not_by, effective, versions_of, token_of, highest_start}
use Rattle.recovery.specs.Sheet.{decoded, sealed, pages}
use Rattle.recovery.specs.World.{down, warm_row, row_holds, lent_right, end_of, highest_bad, undecided_of, cold_rows, opened, unfinished}
use Rattle.recovery.specs.Lent.{row_length, rows_of, flat, sizes_right, open_leaves}
use Rattle.recovery.specs.Numbers.{is_refused}
use Rattle.calls.specs.Walk.{follow}
use Rattle.calls.specs.Calls.{each_row, call}
use Rattle.calls.specs.Leaves.{packed_entry, with_page, call_leaves}
use Rattle.calls.specs.Cuts.{mixed}
use Rattle.desk.specs.Wording.{call_reply, open_reply}
use Rattle.desk.specs.Conversation.{After, started_for, opened_for, called_for, acted}
use Rattle.program.specs.Typing.{WasTyped, text_of}
use Rattle.program.specs.Backdating.{IsUnnumbered, page_after}
use Rattle.program.proofs.Proved.{program}
use Rattle.program.proofs.TextTyped.{reads_typed}
use Rattle.program.proofs.NotBackdated.{nothing_backdated}

-- ---- lines as they are typed

abbrev writes : ℕ → ℕ → ℕ → List ℕ → List ℕ
writes file start action text = write_name ++ spaced file ++ spaced start ++ spaced action ++ (32 ∷ text)

abbrev reads : ℕ → ℕ → ℕ → List ℕ
reads file time action = read_name ++ spaced file ++ spaced time ++ spaced action

abbrev commits : ℕ → List ℕ
commits action = commit_name ++ spaced action

abbrev cut_after : ℕ → List ℕ
cut_after n = cut_name ++ spaced n

-- the rows before the first opening
abbrev rows : List ℕ
rows = replicate (row_length * most_files) 0

-- the program on a sheet of eight pages, which is sooner computed, with these lines behind it; and its replies to lines
abbrev after : List (List ℕ) → Memory
after lines = memory_after 8 8 (replicate 8 0) rows lines

abbrev replies : Memory → List (List ℕ) → List Reply
replies m [] = []
replies m (line ∷ lines) = (turned m line).turn.reply ∷ replies (memory_of (turned m line)) lines

-- ---- document 01's listing, on the console's 256 pages

abbrev pub listing : List (List ℕ)
listing =
    open_name
    ∷ begin_name
    ∷ writes 3 10 1 (65 ∷ 66 ∷ [])
    ∷ reads 3 10 0
    ∷ reads 3 9 0
    ∷ commits 1
    ∷ reads 3 10 0
    ∷ begin_name
    ∷ writes 3 12 4 (67 ∷ 68 ∷ [])
    ∷ cut_after 20
    ∷ commits 4
    ∷ open_name
    ∷ (test_name ++ spaced 4)
    ∷ reads 3 11 0
    ∷ (abort_name ++ spaced 4)
    ∷ reads 3 12 0
    ∷ []

listing_keeps : AllKeep 8 listing
unfolding words number_of three is_text alone with_one with_two with_three with_text command_of parsed decimal spaced open_name begin_name write_name read_name test_name commit_name abort_name cut_name
listing_keeps = (refl, (tt, (tt, (tt, (tt, (tt, (tt, (tt, (tt, (tt, (tt, (refl, (tt, (tt, (tt, (tt, tt))))))))))))))))

pub listing_runs : Run 256 8 (run_of 256 8 (replicate 256 0) rows listing)
listing_runs = (program 256 8 refl (replicate 256 0) rows refl).is_run listing listing_keeps

-- ---- a value written and read within its action: the text that is shown was typed

abbrev short : List (List ℕ)
short = open_name ∷ begin_name ∷ writes 3 10 1 (65 ∷ 66 ∷ []) ∷ []

shown_short : (turned (after short) (reads 3 10 1)).turn.reply ≡ reply.Reply.Shown 2 10 2
unfolding words number_of three is_text alone with_one with_two with_three with_text command_of parsed decimal spaced open_name begin_name write_name read_name test_name commit_name abort_name cut_name call_reply open_reply started_for opened_for called_for acted head front packed fields_of lowest highest within between meets_rules is_page_of torn in_bounds tested tabulate fate_of outcome_of images_of not_by effective versions_of token_of highest_start decoded sealed pages down warm_row row_holds lent_right end_of highest_bad undecided_of cold_rows unfinished opened rows_of flat sizes_right open_leaves follow each_row call packed_entry with_page call_leaves mixed is_refused
shown_short = refl

short_keeps : AllKeep 8 short
unfolding words number_of three is_text alone with_one with_two with_three with_text command_of parsed decimal spaced open_name begin_name write_name read_name test_name commit_name abort_name cut_name
short_keeps = (refl, (tt, (tt, tt)))

asks_read : parsed (reads 3 10 1) ≡ Some (command.Command.Call (code.Call.Read 3 10 1) 11)
unfolding words number_of three is_text alone with_one with_two with_three with_text command_of parsed decimal spaced open_name begin_name write_name read_name test_name commit_name abort_name cut_name
asks_read = refl

pub short_typed : WasTyped short 3 10 (text_of (turned (after short) (reads 3 10 1)))
short_typed = reads_typed 8 8 refl (replicate 8 0) rows refl short (reads 3 10 1) 3 10 1 11 2 10 2 short_keeps asks_read shown_short

-- ---- a commit that is asked again while a cut waits is answered, and the cut waits on

abbrev asked : After
asked = turned (after (open_name ∷ begin_name ∷ commits 1 ∷ cut_after 20 ∷ [])) (commits 1)

pub cut_waits_on : (asked.turn.reply ≡ reply.Reply.Committed 2) × (asked.turn.desk.cut ≡ Some 20)
unfolding words number_of three is_text alone with_one with_two with_three with_text command_of parsed decimal spaced open_name begin_name write_name read_name test_name commit_name abort_name cut_name call_reply open_reply started_for opened_for called_for acted head front packed fields_of lowest highest within between meets_rules is_page_of torn in_bounds tested tabulate fate_of outcome_of images_of not_by effective versions_of token_of highest_start decoded sealed pages down warm_row row_holds lent_right end_of highest_bad undecided_of cold_rows unfinished opened rows_of flat sizes_right open_leaves follow each_row call packed_entry with_page call_leaves mixed is_refused
cut_waits_on = (refl, refl)

-- ---- a version of file 1 from 50 on, file 2 read at 60, and the supply cut: after the bare `open` nothing can be written at 50. But a time
-- that was read and never written is not on the sheet: a version of file 2 from 52 on is accepted, and the read at 60 changes

abbrev until_cut : List (List ℕ)
until_cut = open_name ∷ begin_name ∷ writes 1 50 1 (65 ∷ []) ∷ commits 1 ∷ reads 2 60 0 ∷ cut_after 0 ∷ begin_name ∷ []

abbrev reopened : List (List ℕ)
reopened = open_name ∷ begin_name ∷ writes 2 50 4 (66 ∷ []) ∷ writes 2 52 4 (66 ∷ []) ∷ commits 4 ∷ reads 2 60 0 ∷ []

pub read_not_kept : replies (after []) (until_cut ++ reopened)
    ≡ reply.Reply.Opened 0 0 ∷ reply.Reply.Begun 1 ∷ reply.Reply.Written 2 ∷ reply.Reply.Committed 3 ∷ reply.Reply.Nothing ∷ reply.Reply.Cut 0 ∷ reply.Reply.Lost
    ∷ reply.Reply.Opened 3 0 ∷ reply.Reply.Begun 4 ∷ reply.Reply.No 10 0 ∷ reply.Reply.Written 5 ∷ reply.Reply.Committed 6 ∷ reply.Reply.Shown 5 52 1 ∷ []
unfolding words number_of three is_text alone with_one with_two with_three with_text command_of parsed decimal spaced open_name begin_name write_name read_name test_name commit_name abort_name cut_name call_reply open_reply started_for opened_for called_for acted head front packed fields_of lowest highest within between meets_rules is_page_of torn in_bounds tested tabulate fate_of outcome_of images_of not_by effective versions_of token_of highest_start decoded sealed pages down warm_row row_holds lent_right end_of highest_bad undecided_of cold_rows unfinished opened rows_of flat sizes_right open_leaves follow each_row call packed_entry with_page call_leaves mixed is_refused
read_not_kept = refl

-- ---- an image of an action that is still undecided, and a bare `open`; a write that is cut after its last byte, and another such `open`:
-- what was stored starts above

unfoldable pub begun : List (List ℕ)
begun = open_name ∷ begin_name ∷ writes 1 50 1 (65 ∷ []) ∷ []

unfoldable cut_write : List (List ℕ)
cut_write = cut_after 64 ∷ writes 2 52 1 (66 ∷ []) ∷ open_name ∷ []

begun_keeps : AllKeep 8 begun
unfolding words number_of three is_text alone with_one with_two with_three with_text command_of parsed decimal spaced open_name begin_name write_name read_name test_name commit_name abort_name cut_name begun
begun_keeps = (refl, (tt, (tt, tt)))

is_bare : parsed open_name ≡ (Some command.Command.BareOpen)
unfolding words number_of three is_text alone with_one with_two with_three with_text command_of parsed decimal spaced open_name begin_name write_name read_name test_name commit_name abort_name cut_name
is_bare = refl

unnumbered : AllLines IsUnnumbered cut_write
unfolding words number_of three is_text alone with_one with_two with_three with_text command_of parsed decimal spaced open_name begin_name write_name read_name test_name commit_name abort_name cut_name cut_write
unnumbered = (tt, (tt, (tt, tt)))

abbrev pub image_of : ℕ → ℕ → ℕ → Entry
image_of file start byte = image (record { file = file; action = 1; link = 0; start = start; value = byte ∷ [] })

on_page_2 : page_after 8 (replicate 8 0) rows begun 2 ≡ image_of 1 50 65
unfolding words number_of three is_text alone with_one with_two with_three with_text command_of parsed decimal spaced open_name begin_name write_name read_name test_name commit_name abort_name cut_name call_reply open_reply started_for opened_for called_for acted head front packed fields_of lowest highest within between meets_rules is_page_of torn in_bounds tested tabulate fate_of outcome_of images_of not_by effective versions_of token_of highest_start decoded sealed pages down warm_row row_holds lent_right end_of highest_bad undecided_of cold_rows unfinished opened rows_of flat sizes_right open_leaves follow each_row call packed_entry with_page call_leaves mixed is_refused begun
on_page_2 = refl

on_page_3 : page_after 8 (replicate 8 0) rows (begun ++ open_name ∷ cut_write) 3 ≡ image_of 2 52 66
unfolding words number_of three is_text alone with_one with_two with_three with_text command_of parsed decimal spaced open_name begin_name write_name read_name test_name commit_name abort_name cut_name call_reply open_reply started_for opened_for called_for acted head front packed fields_of lowest highest within between meets_rules is_page_of torn in_bounds tested tabulate fate_of outcome_of images_of not_by effective versions_of token_of highest_start decoded sealed pages down warm_row row_holds lent_right end_of highest_bad undecided_of cold_rows unfinished opened rows_of flat sizes_right open_leaves follow each_row call packed_entry with_page call_leaves mixed is_refused begun cut_write
on_page_3 = refl

pub nothing_backdated_met : (page_after 8 (replicate 8 0) rows begun 3 ≡ image_of 2 52 66) ⊎ (50 < 52)
nothing_backdated_met = nothing_backdated 8 refl (replicate 8 0) rows refl begun open_name cut_write 2 3 _ _ begun_keeps is_bare unnumbered on_page_2 on_page_3
