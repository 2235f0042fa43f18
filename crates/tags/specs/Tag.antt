-- The tags of the model file, and the classes of tags.
use Rattle.std.specs.Prelude.{ℕ, Bool, ◌&&◌, ◌||◌, leb}

-- Top level, and the parts of an entry
abbrev pub State : ℕ
State = 0x01

abbrev pub Genesis : ℕ
Genesis = 0x02

abbrev pub Entry : ℕ
Entry = 0x03

abbrev pub Parameter : ℕ
Parameter = 0x04

abbrev pub Limits : ℕ
Limits = 0x05

abbrev pub Denies : ℕ
Denies = 0x06

-- Statements: 13 to 15 have a target and a value
abbrev pub Guard : ℕ
Guard = 0x10

abbrev pub Let : ℕ
Let = 0x11

abbrev pub Emit : ℕ
Emit = 0x12

abbrev pub Set : ℕ
Set = 0x13

abbrev pub AddTo : ℕ
AddTo = 0x14

abbrev pub SubtractFrom : ℕ
SubtractFrom = 0x15

abbrev pub ExpressionStatement : ℕ
ExpressionStatement = 0x16

-- Texts
abbrev pub Name : ℕ
Name = 0x20

abbrev pub TypeName : ℕ
TypeName = 0x21

-- Expressions
abbrev pub Integer : ℕ
Integer = 0x30

abbrev pub Date : ℕ
Date = 0x31

abbrev pub String : ℕ
String = 0x32

abbrev pub Identifier : ℕ
Identifier = 0x33

abbrev pub Caller : ℕ
Caller = 0x34

abbrev pub Native : ℕ
Native = 0x35

abbrev pub InAsset : ℕ
InAsset = 0x36

abbrev pub Now : ℕ
Now = 0x37

abbrev pub Not : ℕ
Not = 0x38

abbrev pub Negate : ℕ
Negate = 0x39

abbrev pub Member : ℕ
Member = 0x3A

abbrev pub Call : ℕ
Call = 0x3B

abbrev pub Checked : ℕ
Checked = 0x3C

abbrev pub Wrapping : ℕ
Wrapping = 0x3D

-- Binary expressions
abbrev pub Or : ℕ
Or = 0x40

abbrev pub And : ℕ
And = 0x41

abbrev pub Eq : ℕ
Eq = 0x42

abbrev pub Ne : ℕ
Ne = 0x43

abbrev pub Lt : ℕ
Lt = 0x44

abbrev pub Gt : ℕ
Gt = 0x45

abbrev pub Le : ℕ
Le = 0x46

abbrev pub Ge : ℕ
Ge = 0x47

abbrev pub Add : ℕ
Add = 0x48

abbrev pub Sub : ℕ
Sub = 0x49

abbrev pub Mul : ℕ
Mul = 0x4A

abbrev pub Div : ℕ
Div = 0x4B

abbrev pub Rem : ℕ
Rem = 0x4C

abbrev pub Shr : ℕ
Shr = 0x4D

-- m ≤ t ≤ n
abbrev pub between : ℕ → ℕ → ℕ → Bool
between m n t = leb m t && leb t n

-- 01 to 03, at the top level
unfoldable pub is_item : ℕ → Bool
is_item t = between State Entry t

-- 05, 06
unfoldable pub is_clause : ℕ → Bool
is_clause t = between Limits Denies t

-- 10 to 16
unfoldable pub is_statement : ℕ → Bool
is_statement t = between Guard ExpressionStatement t

-- 13 to 15
unfoldable pub is_assign : ℕ → Bool
is_assign t = between Set SubtractFrom t

-- 30 to 3D, 40 to 4D
unfoldable pub is_expression : ℕ → Bool
is_expression t = between Integer Wrapping t || between Or Shr t

-- 20, 21, 30 to 33
unfoldable pub is_text : ℕ → Bool
is_text t = between Name TypeName t || between Integer Identifier t

-- 3C, 3D: what `peel` takes off
unfoldable pub is_wrapper : ℕ → Bool
is_wrapper t = between Checked Wrapping t

-- 01 to 06, 10 to 16, 38 to 3D, 40 to 4D: the content is fields
unfoldable pub composite : ℕ → Bool
composite t = between State Denies t || between Guard ExpressionStatement t || between Not Wrapping t || between Or Shr t
