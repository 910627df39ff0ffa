mod Lines
