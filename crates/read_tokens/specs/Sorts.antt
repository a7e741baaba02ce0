-- The sorts of token by number, as the code names them.
use Rattle.std.specs.Prelude.{ℕ}

abbrev pub no_token : ℕ
no_token = 0

abbrev pub name : ℕ
name = 1

abbrev pub number : ℕ
number = 2

abbrev pub minus : ℕ
minus = 3

abbrev pub not : ℕ
not = 4

abbrev pub given : ℕ
given = 5

abbrev pub arith : ℕ
arith = 6

abbrev pub and : ℕ
and = 7

abbrev pub or : ℕ
or = 8

abbrev pub round_open : ℕ
round_open = 9

abbrev pub round_close : ℕ
round_close = 10

abbrev pub square_open : ℕ
square_open = 11

abbrev pub square_close : ℕ
square_close = 12

abbrev pub skip : ℕ
skip = 13

abbrev pub stop : ℕ
stop = 14

abbrev pub seq : ℕ
seq = 15

abbrev pub par : ℕ
par = 16

abbrev pub if : ℕ
if = 17

abbrev pub alt : ℕ
alt = 18

abbrev pub while : ℕ
while = 19

abbrev pub becomes : ℕ
becomes = 20

abbrev pub asks : ℕ
asks = 21

abbrev pub tells : ℕ
tells = 22

abbrev pub ampersand : ℕ
ampersand = 23

abbrev pub int : ℕ
int = 24

abbrev pub chan : ℕ
chan = 25

abbrev pub hostin : ℕ
hostin = 26

abbrev pub hostout : ℕ
hostout = 27

abbrev pub colon : ℕ
colon = 28

abbrev pub unused : ℕ
unused = 29
