-- The slots that the code keeps, as the numbers of the grammar.
use Rattle.std.specs.Prelude.{ℕ, List, map}
use Rattle.grammar.specs.Grammar.{name, type_name, item, parameter, clause, statement, expression, one, optional, many}
use Rattle.grammar.specs.declared.Class.{Class}
use Rattle.grammar.specs.declared.Class.TheVariants as class
use Rattle.grammar.specs.declared.Slot.{Slot}
use Rattle.grammar.specs.declared.Slot.TheVariants as slot
use Rattle.grammar.specs.declared.Slots.{Slots}

abbrev pub class_number : Class → ℕ
class_number class.Name = name
class_number class.TypeName = type_name
class_number class.Item = item
class_number class.Parameter = parameter
class_number class.Clause = clause
class_number class.Statement = statement
class_number class.Expression = expression

abbrev pub slot_number : Slot → ℕ
slot_number (slot.One c) = one (class_number c)
slot_number (slot.Optional c) = optional (class_number c)
slot_number (slot.Many c) = many (class_number c)

abbrev pub slot_list : Slots → List ℕ
slot_list s = map slot_number s.left.now
