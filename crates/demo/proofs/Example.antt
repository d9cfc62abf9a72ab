-- Short scripts computed from the definitions: `lose 2`, `give 3`, `?` without a line end; one with stores and a pulled plug; and the empty script. And
-- what is made at once of the forms that the bench begins with.
-- Assumes nothing.
use Prim.Native.Nat.{ℕ}
use mathlib.Core.Path.{◌≡◌, refl}
use mathlib.Core.List.{List, [], ◌++◌}
use Rattle.refusals.specs.Refusal.{first}
use Rattle.refusals.specs.Call.{front, outcome}
use Rattle.lines.specs.Digits.{within, digit_value, all_digits, value_from, value_of, is_number}
use Rattle.lines.specs.Lines.{lines_from, lines_of, answers}
use Rattle.lines.specs.Text.{glyph_of, decimal_digits, decimal_text}
use Rattle.script.specs.Quoted.{quoted}
use Rattle.script.specs.Script.{all_printable, begins, is, lose_of, at_place, store_of, count_of, place_of, asked_lose, asked_give, asked_store, asked_cell, asked_phone, asked_command, asked}
use Rattle.numbering.specs.Numbering.{end, mark, marks_of, can_arise}
use Rattle.keystreams.specs.Key.{prepared}
use Rattle.frames.specs.Frame.{pair, pair_at, is_whole, look_order}
use Rattle.link.specs.Link.{is_service, is_direction, link_can_arise, link_of, no_link, is_payload}
use Rattle.sender.specs.Sender.{new_sender, after_frame, with_reservation, sender_can_arise, is_reservation, reserve_order, seal_order}
use Rattle.receiver.specs.Receiver.{new_receiver, receiver_can_arise, open_order}
use Rattle.stored.specs.Form.{quad, quad_at, quads, form, link_in, word_in, is_form_long, form_order}
use Rattle.stored.specs.Ends.{sender_form, sender_in, store_sender_order, restore_sender_order, receiver_form, receiver_in, store_receiver_order, restore_receiver_order}
use Rattle.demo.specs.Words.{refusal_words, refusal_text, why_words}
use Rattle.demo.specs.Columns.{column, phone_text, phone_columns, why_text, number_text, answer_text, shown_text, text_column, cell_columns, silent_columns}
use Rattle.demo.specs.Ends.{example_key, example_link, frame_room, stored_phone, restarted_phone, told_phone, cut_phone, kept_ahead, new_phone, phone_after, stored_cell, restarted_cell, new_cell, empty_shelf, frame_kept}
use Rattle.demo.specs.Plugs.{phone_shown, cut_shown, storing_phone, telling_phone, cutting_phone, restarting_phone}
use Rattle.demo.specs.Acts.{handed_columns, losing, giving, nothing, obeyed}
use Rattle.demo.specs.Play.{answer, after, new_stage, heading, demo_output}

-- the script
pub script : List ℕ
script = quoted "lose 2\ngive 3\n?"

-- and what is answered to it, after the heading
pub told : List ℕ
told =
    quoted "1          64         lost 2     -          -          0          -\n"
    ++ (quoted "-          64         gave 3     -          5 length   0          -\n"
    ++ quoted "?          64         command    -          -          0          -\n")

pub script_example : demo_output script ≡ heading ++ told
unfolding script told demo_output front phone_columns is asked_cell asked_phone kept_ahead new_phone new_cell stored_phone stored_cell told_phone reserve_order is_reservation with_reservation restore_sender_order form_order is_form_long store_sender_order sender_form sender_in link_in word_in form pair quad quads quad_at prepared example_key heading lines_of lines_from answers answer after obeyed asked asked_command all_printable within begins asked_lose asked_give lose_of at_place store_of count_of place_of is_number all_digits digit_value value_of value_from losing giving nothing phone_text handed_columns silent_columns cell_columns number_text answer_text refusal_text refusal_words why_text why_words text_column shown_text column decimal_text decimal_digits glyph_of phone_after outcome seal_order sender_can_arise link_can_arise is_service is_direction is_payload first open_order receiver_can_arise can_arise mark marks_of look_order is_whole pair_at frame_kept empty_shelf frame_room new_stage new_sender new_receiver after_frame example_link link_of end
script_example = refl

-- a script with stores and a pulled plug
pub plug_script : List ℕ
plug_script = quoted "tell phone\nlose 1\nstore phone 9\ntell phone\nlose 1\ncut phone\nrestart phone\n"

pub plug_told : List ℕ
plug_told =
    quoted "ok         0          told       -          -          0          -\n"
    ++ (quoted "13 reserve 0          lost 1     -          -          0          -\n"
    ++ (quoted "ok         0          stored 9   -          -          0          -\n"
    ++ (quoted "ok         9          told       -          -          0          -\n"
    ++ (quoted "0          9          lost 1     -          -          0          -\n"
    ++ (quoted "-          0          cut phone  -          -          0          -\n" ++ quoted "ok         9          restarted  -          -          0          -\n")))))

pub plug_example : demo_output plug_script ≡ heading ++ plug_told
unfolding plug_script plug_told demo_output front phone_columns is asked_cell asked_phone kept_ahead new_phone new_cell stored_phone stored_cell told_phone reserve_order is_reservation with_reservation restore_sender_order form_order is_form_long store_sender_order sender_form sender_in link_in word_in form pair quad quads quad_at prepared example_key heading lines_of lines_from answers answer after obeyed asked asked_command all_printable within begins asked_lose lose_of store_of count_of is_number all_digits digit_value value_of value_from losing phone_text silent_columns answer_text refusal_text refusal_words column decimal_text decimal_digits glyph_of phone_after outcome seal_order sender_can_arise link_can_arise is_service is_direction is_payload first receiver_can_arise can_arise mark marks_of pair_at empty_shelf frame_room new_stage new_sender new_receiver after_frame example_link link_of end asked_store storing_phone telling_phone cutting_phone restarting_phone phone_shown cut_shown restarted_phone cut_phone no_link
plug_example = refl

-- the forms that the bench begins with make the newly opened ends
pub phone_restarts : restarted_phone new_phone ≡ new_phone
unfolding restarted_phone new_phone stored_phone outcome first front restore_sender_order form_order is_form_long store_sender_order reserve_order is_reservation sender_can_arise link_can_arise is_service is_direction sender_form sender_in link_in word_in form pair pair_at quad quads quad_at new_sender example_link link_of prepared example_key end
phone_restarts = refl

pub cell_restarts : restarted_cell new_cell ≡ new_cell
unfolding restarted_cell new_cell stored_cell outcome first front restore_receiver_order form_order is_form_long store_receiver_order receiver_can_arise link_can_arise can_arise mark marks_of is_service is_direction receiver_form receiver_in link_in word_in form pair pair_at quad quads quad_at new_receiver example_link link_of prepared example_key end
cell_restarts = refl

-- the empty script has the heading alone
pub empty_example : demo_output [] ≡ heading
unfolding demo_output heading column lines_of lines_from answers
empty_example = refl
