-- The two calls on plan files, which lend order and groups as bytes: what they reply.
-- "16: file breaks this layout or these counts, or a plan to be written does, before 8."
use Rattle.std.specs.Prelude.{◌&&◌, List, [], ◌∷◌, ℕ, ◌+◌, ◌*◌, ◌/◌, leb, length}
use Rattle.base.specs.Refusals as why
use Rattle.base.specs.Replies.{Reply, accepted, refused, check, room_for, in_turn}
use Rattle.plan.specs.Groups.{Plan, width, plan_of}
use Rattle.words.specs.LittleEndian.{unsigned}
use Rattle.planfile.specs.File.{number_size, file_size, is_sized, freedoms_in, groups_in, is_file}

-- the plan of n freedoms and `count` groups in lent bytes
abbrev pub lent_plan : (n : ℕ) (order groups : List ℕ) (count : ℕ) → Plan
lent_plan n order groups count = plan_of n (unsigned number_size order) (unsigned number_size groups) count

-- a plan is written: 16, then 8 where "lists .. fall short" of the counts, then 9; accepted with the bytes written
unfoldable pub write_plan_reply : (n : ℕ) (order groups : List ℕ) (count room : ℕ) → Reply
write_plan_reply n order groups count room =
    in_turn
    refused
    (
    check why.bad_layout (is_sized n count)
    ∷ check why.unsound (leb n (length order / number_size) && leb (width * count) (length groups / number_size))
    ∷ room_for (file_size n count) room
    ∷ []
    )
    (accepted (file_size n count))

-- a file is read: 16, then 9 "of order, groups, counted in records"; accepted with both counts, the groups' times
-- 65,536. Nothing else is judged: "A file read is not yet sound; the run still checks"
unfoldable pub read_plan_reply : (file order groups : List ℕ) → Reply
read_plan_reply file order groups =
    in_turn
    refused
    (
    check why.bad_layout (is_file file)
    ∷ room_for (freedoms_in file) (length order / number_size)
    ∷ room_for (groups_in file) (length groups / number_size / width)
    ∷ []
    )
    (accepted (freedoms_in file + 65536 * groups_in file))
