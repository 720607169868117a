-- What the two calls reply.
use Rattle.std.specs.Prelude.{ℕ, ◌%◌, ◌^◌, List, [], ◌∷◌, length, ℤ}
use Rattle.base.specs.Replies.{Reply, accepted, refused, in_turn, room_for}
use Rattle.numbers.specs.Lines.{Listed, numbers, faulty, numbers_text}

-- what 32 bits keep of a count or a place: a text has any number of lines
unfoldable pub in32 : Reply → Reply
in32 (accepted count) = accepted (count % 2 ^ 32)
in32 (refused number place) = refused number (place % 2 ^ 32)

-- "9: a lent list is too short": the reply of a call that fills one list and counts what it fills it with
abbrev pub filled : (needed room : ℕ) → Reply
filled needed room = in32 (in_turn refused (room_for needed room ∷ []) (accepted needed))

-- the list that a text holds; of a text that is refused there is none
unfoldable pub numbers_in : Listed → List ℤ
numbers_in (numbers zs) = zs
numbers_in (faulty q p) = []

-- The reader's reply: 2 and 4 line by line, then 9, in numbers. Its list is then `lent` of the reply and `numbers_in`
unfoldable pub read_numbers_reply : Listed → (room : ℕ) → Reply
read_numbers_reply (numbers zs) room = filled (length zs) room
read_numbers_reply (faulty q p) room = in32 (refused q p)

-- The writer's reply: 9, in bytes. Its text is then `lent` of the reply and `numbers_text`
unfoldable pub write_numbers_reply : List ℤ → (room : ℕ) → Reply
write_numbers_reply zs room = filled (length (numbers_text zs)) room
